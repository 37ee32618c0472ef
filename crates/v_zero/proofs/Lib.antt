pub mod Ruled
pub mod Few
pub mod Giving
pub mod Listing
pub mod Starting
