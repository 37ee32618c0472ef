pub mod Same
pub mod Fits
