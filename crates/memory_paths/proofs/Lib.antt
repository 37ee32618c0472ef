pub mod Changing
pub mod Meant
pub mod Tight
pub mod Inner
pub mod InWords
