pub mod Hangs
pub mod Laws
