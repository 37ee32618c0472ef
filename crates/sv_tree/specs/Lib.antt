pub mod Heads
pub mod Symbols
pub mod Table
pub mod Rows
pub mod Extents
