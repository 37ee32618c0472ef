pub mod Signals
pub mod Processes
pub mod Functions
pub mod Instances
pub mod Plain
