pub mod Hangs
pub mod Places
pub mod Runs
pub mod Statements
pub mod Processes
