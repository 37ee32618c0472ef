pub mod Literals
pub mod Statements
pub mod Names
pub mod Lookup
pub mod Rules
pub mod Elaboration
pub mod Answers
