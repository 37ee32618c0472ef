pub mod Linking
pub mod Stepping
pub mod Instances
pub mod Standing
