pub mod Signals
pub mod Shapes
