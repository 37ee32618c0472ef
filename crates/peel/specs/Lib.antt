pub mod Peeled
pub mod Steps
pub mod Laws
