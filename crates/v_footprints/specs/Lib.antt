pub mod Footprints
pub mod Laws
