pub mod Levels
pub mod Uses
pub mod Values
pub mod Runs
pub mod Calls
pub mod Writes
