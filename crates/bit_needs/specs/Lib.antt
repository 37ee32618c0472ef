pub mod Uses
pub mod Writers
pub mod Touching
pub mod Needs
pub mod Laws
