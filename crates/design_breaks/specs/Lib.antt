pub mod Indices
pub mod Unrolling
pub mod Mentions
pub mod Actions
pub mod Memories
pub mod Breaks
pub mod Circles
pub mod Spots
