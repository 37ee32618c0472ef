pub mod Limits
pub mod Choices
pub mod Entering
pub mod Inside
pub mod Agreeing
pub mod Keeping
pub mod Modules
