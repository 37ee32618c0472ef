pub mod InTurn
pub mod Each
pub mod Zipping
pub mod Calling
pub mod Counting
