pub mod Powers
pub mod Finding
pub mod Unguarded
pub mod Reading
pub mod Naming
