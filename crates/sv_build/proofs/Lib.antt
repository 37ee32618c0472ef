pub mod Depths
pub mod Kept
pub mod Lengths
pub mod OneReading
mod Numbers
