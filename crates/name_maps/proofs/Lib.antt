pub mod Maps
pub mod Once
