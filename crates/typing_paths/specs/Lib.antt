pub mod Paths
pub mod TypingValues
pub mod Names
pub mod Children
pub mod Forms
pub mod System
pub mod Dimensions
pub mod TypingValuesParts
