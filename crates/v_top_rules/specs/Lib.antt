pub mod Sums
pub mod Fitting
pub mod Orders
