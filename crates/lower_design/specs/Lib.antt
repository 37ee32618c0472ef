pub mod Translatable
pub mod Agreement
pub mod Shape
pub mod Lowering
pub mod Lowered
pub mod Designs
