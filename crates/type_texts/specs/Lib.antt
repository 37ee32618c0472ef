pub mod Fields
pub mod Uniting
