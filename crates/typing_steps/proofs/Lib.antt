pub mod Combining
pub mod Lists
pub mod Turns
pub mod Following
pub mod Rules
