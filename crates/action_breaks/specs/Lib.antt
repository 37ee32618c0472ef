pub mod Bases
pub mod Misuse
