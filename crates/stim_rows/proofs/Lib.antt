pub mod Stepping
pub mod Zips
pub mod Ports
pub mod Whole
pub mod Given
pub mod Unique
