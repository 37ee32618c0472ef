pub mod Powers
pub mod Stands
pub mod Ranking
pub mod Writing
pub mod Naming
pub mod Owning
