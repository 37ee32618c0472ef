pub mod Listing
pub mod Shaping
