pub mod Quiet
pub mod Rows
pub mod Designs
