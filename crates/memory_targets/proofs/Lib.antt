pub mod Naming
pub mod Pieces
pub mod Named
pub mod Selecting
pub mod Owning
