pub mod Values
pub mod Numbers
pub mod Leaves
pub mod Children
pub mod Parts
pub mod TypingParts
