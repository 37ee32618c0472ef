pub mod Values
pub mod Locals
pub mod Flows
pub mod Calls
