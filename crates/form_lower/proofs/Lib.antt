pub mod Comparing
pub mod Casting
pub mod Placing
