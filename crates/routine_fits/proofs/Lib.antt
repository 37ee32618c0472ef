pub mod Statements
pub mod Functions
pub mod Targets
pub mod Rules
pub mod Loops
