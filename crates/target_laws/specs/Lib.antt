pub mod Seeing
pub mod Standing
pub mod Distances
pub mod Elements
pub mod Vectors
