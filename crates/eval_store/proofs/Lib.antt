pub mod Writing
pub mod Storing
