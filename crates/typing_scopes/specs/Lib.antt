pub mod Scopes
pub mod Ranks
pub mod Ahead
