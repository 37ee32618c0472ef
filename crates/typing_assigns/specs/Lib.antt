pub mod Targets
pub mod Parts
pub mod Giving
pub mod Assigning
