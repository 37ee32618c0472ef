pub mod Ordered
pub mod Meanings
pub mod Laws
