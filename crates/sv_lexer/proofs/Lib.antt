pub mod Scans
pub mod Words
pub mod Groups
pub mod Fronts
pub mod Skips
pub mod Unclosed
pub mod Raw
