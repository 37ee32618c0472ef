pub mod Owed
pub mod Early
