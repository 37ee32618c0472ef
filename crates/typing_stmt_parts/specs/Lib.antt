pub mod Meanings
pub mod Items
pub mod Parts
pub mod Blocks
