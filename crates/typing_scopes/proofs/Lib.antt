pub mod Levels
pub mod Behind
pub mod Finding
pub mod Turning
