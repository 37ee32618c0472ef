pub mod Names
pub mod Texts
pub mod Sound
pub mod Laws
