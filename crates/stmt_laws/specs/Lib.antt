pub mod Written
pub mod Sound
pub mod Laws
