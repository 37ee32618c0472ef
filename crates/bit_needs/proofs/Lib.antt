pub mod Adding
pub mod Cutting
pub mod Ends
pub mod Touching
pub mod Pieces
pub mod Laws
