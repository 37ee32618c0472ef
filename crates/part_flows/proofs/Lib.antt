pub mod Sequence
pub mod Failing
pub mod Constants
pub mod Parts
pub mod Passing
