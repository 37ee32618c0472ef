pub mod Tokens
pub mod Meant
pub mod Lists
pub mod Levels
pub mod Rows
pub mod Chains
pub mod Derivations
