pub mod Reasons
pub mod Order
pub mod Tried
pub mod Covering
pub mod Whole
