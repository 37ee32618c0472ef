pub mod Joining
pub mod Enums
pub mod Pairing
