pub mod Digits
pub mod Adding
pub mod Ordering
pub mod Layouts
