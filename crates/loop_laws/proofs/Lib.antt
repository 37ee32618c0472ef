pub mod Lesser
pub mod SaidLevels
pub mod LongOperands
pub mod Constants
pub mod Rows
pub mod Turns
pub mod Statements
