pub mod Alternatives
pub mod Insides
