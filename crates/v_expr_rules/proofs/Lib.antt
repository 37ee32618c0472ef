pub mod Saturation
pub mod Levels
pub mod Operands
pub mod Listed
pub mod Selects
pub mod Whole
