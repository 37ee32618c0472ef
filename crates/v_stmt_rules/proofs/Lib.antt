pub mod TargetsExact
pub mod Declared
pub mod StmtsExact
pub mod CasesExact
