pub mod Keyed
pub mod Written
pub mod TypingValues
pub mod TypingValuesParts
pub mod Insides
pub mod Sized
