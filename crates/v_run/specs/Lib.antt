pub mod Writes
pub mod Changes
pub mod Standing
pub mod Limits
