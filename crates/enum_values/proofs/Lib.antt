pub mod Constants
pub mod Written
pub mod Unwritten
