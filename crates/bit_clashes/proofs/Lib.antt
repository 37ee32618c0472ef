pub mod Sweeping
pub mod Placed
