pub mod Written
pub mod HeldWrites
pub mod Changed
pub mod Targeted
pub mod Assigning
pub mod Deciding
pub mod Clearing
pub mod PutOver
