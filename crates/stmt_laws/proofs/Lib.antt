pub mod Values
pub mod Declared
pub mod Parts
pub mod Statements
pub mod Walk
