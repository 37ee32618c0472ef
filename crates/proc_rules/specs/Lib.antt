pub mod Processes
pub mod Functions
pub mod Check
