pub mod Placed
pub mod FormalLists
pub mod Directories
pub mod Topmost
pub mod Whole
pub mod Taken
