pub mod Stores
pub mod Waits
