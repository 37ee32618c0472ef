pub mod Giving
pub mod Places
pub mod Actuals
pub mod Held
pub mod Locals
pub mod LocalWalk
pub mod Heads
pub mod Routines
