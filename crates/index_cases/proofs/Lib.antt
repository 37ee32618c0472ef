pub mod Cases
pub mod Matching
pub mod Words
