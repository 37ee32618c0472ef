pub mod Keeping
pub mod Marking
pub mod Converting
pub mod Opening
pub mod Narrowing
pub mod Typing
