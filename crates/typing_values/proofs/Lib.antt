pub mod Operands
pub mod Constants
pub mod Names
pub mod Children
pub mod Putting
