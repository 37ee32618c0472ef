pub mod Passing
pub mod Bodies
pub mod Whole
