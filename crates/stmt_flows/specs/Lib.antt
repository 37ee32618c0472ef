pub mod Fails
pub mod Full
pub mod Long
pub mod Gives
pub mod Turns
pub mod Statements
pub mod Branches
pub mod Scopes
