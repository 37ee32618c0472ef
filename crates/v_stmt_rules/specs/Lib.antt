pub mod Labels
pub mod Targets
pub mod Stmts
