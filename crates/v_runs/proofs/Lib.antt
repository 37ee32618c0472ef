pub mod Depth
pub mod Decimal
pub mod Rooted
pub mod Running
