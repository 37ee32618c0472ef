pub mod Scopes
pub mod Texts
pub mod Counts
pub mod Homes
