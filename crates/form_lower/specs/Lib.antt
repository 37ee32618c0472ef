pub mod Calls
pub mod Wilds
pub mod Assigned
pub mod Places
