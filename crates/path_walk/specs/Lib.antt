pub mod Selects
pub mod Indices
pub mod Bases
pub mod Flattening
