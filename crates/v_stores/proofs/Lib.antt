pub mod Padding
pub mod Waiting
pub mod Naming
