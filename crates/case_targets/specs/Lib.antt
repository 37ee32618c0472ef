pub mod Naming
pub mod Spreading
