pub mod Words
pub mod Pieces
pub mod Names
pub mod Owning
