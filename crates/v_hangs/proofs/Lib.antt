pub mod Same
pub mod Values
pub mod Runs
pub mod Calls
pub mod Processes
pub mod Reading
pub mod Listing
