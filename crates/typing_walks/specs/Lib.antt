pub mod Keeps
pub mod Written
pub mod WrittenTypes
