pub mod Selecting
pub mod Naming
pub mod TargetNaming
pub mod Asking
pub mod Words
pub mod Typable
pub mod Levels
pub mod Rows
