pub mod Matching
pub mod Wide
pub mod Casts
pub mod Admitting
pub mod OperandTypes
