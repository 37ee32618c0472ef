pub mod Known
pub mod Stands
pub mod Free
pub mod Sliding
