pub mod Calls
pub mod Ways
pub mod Known
pub mod Rounds
