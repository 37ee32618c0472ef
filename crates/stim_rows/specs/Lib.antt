pub mod Slots
pub mod RowFiles
pub mod Departures
pub mod Reading
pub mod Lines
pub mod Laws
