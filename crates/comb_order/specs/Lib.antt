pub mod Bits
pub mod Combs
pub mod Stuck
