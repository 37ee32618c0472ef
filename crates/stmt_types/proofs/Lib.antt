pub mod InTurn
pub mod Widening
pub mod Joins
pub mod Wides
pub mod Turns
pub mod Splits
pub mod Building
pub mod Alike
