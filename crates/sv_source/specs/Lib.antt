pub mod Faults
pub mod Loading
pub mod Putting
pub mod Memory
pub mod Message
