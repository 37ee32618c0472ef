pub mod Rounds
pub mod Counting
pub mod Ordered
