pub mod Asking
pub mod Loading
pub mod Running
pub mod Parts
pub mod Answers
pub mod Endings
pub mod Promises
