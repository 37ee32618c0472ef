pub mod Turns
pub mod Targets
pub mod Counted
pub mod Walks
pub mod Bodies
pub mod Looked
