pub mod Stores
pub mod Parts
pub mod Rounds
pub mod Settling
pub mod Rows
pub mod Plans
