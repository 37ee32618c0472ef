pub mod Reaching
pub mod Leading
pub mod Fitting
pub mod Finding
