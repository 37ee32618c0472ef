pub mod Shifting
pub mod Ranking
pub mod Selecting
pub mod Writing
pub mod Choosing
pub mod Targets
pub mod Holding
