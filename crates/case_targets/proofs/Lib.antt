pub mod Counting
pub mod Standing
pub mod Casing
pub mod Making
pub mod Naming
pub mod Changing
