pub mod Written
pub mod Fit
pub mod Positions
pub mod Lines
