pub mod Depths
pub mod Runnable
