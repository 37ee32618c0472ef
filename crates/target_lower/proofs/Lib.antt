pub mod Following
pub mod Making
pub mod Constant
pub mod Standing
pub mod Stepping
pub mod Parting
