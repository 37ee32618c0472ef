pub mod Slots
pub mod Instances
pub mod Walks
