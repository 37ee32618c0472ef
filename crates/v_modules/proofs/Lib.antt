pub mod Placing
pub mod Naming
pub mod Once
pub mod InputKinds
