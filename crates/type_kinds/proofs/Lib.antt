pub mod Widths
pub mod States
