pub mod Spots
pub mod Writing
pub mod Naming
pub mod Owning
