pub mod Orders
pub mod Placing
pub mod Ordering
pub mod Forms
pub mod Calls
pub mod KeepOrder
pub mod Widths
mod Examples
