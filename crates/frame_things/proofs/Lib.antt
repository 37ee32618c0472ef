pub mod Placing
pub mod Naming
pub mod Standing
pub mod Hiding
pub mod Grown
