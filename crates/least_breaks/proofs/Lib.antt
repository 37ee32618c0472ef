pub mod Tokens
pub mod Comparing
