pub mod Levels
pub mod Lacking
pub mod Making
pub mod Finding
pub mod Rows
pub mod Choosing
pub mod Blocks
