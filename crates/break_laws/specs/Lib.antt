pub mod Widths
pub mod Shapes
pub mod Laws
