pub mod Filling
pub mod Reaching
pub mod Emptying
pub mod Steps
