pub mod Positions
pub mod Places
pub mod Footprints
pub mod Standing
pub mod Collecting
pub mod First
pub mod Orders
