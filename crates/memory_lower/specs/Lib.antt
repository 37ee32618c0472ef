pub mod Lowered
pub mod Made
pub mod Named
pub mod Shapes
pub mod Written
