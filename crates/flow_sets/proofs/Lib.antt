pub mod Joining
pub mod Early
pub mod Positions
pub mod Plain
pub mod Sequences
pub mod Locals
