pub mod Sinks
pub mod Ends
pub mod Calls
