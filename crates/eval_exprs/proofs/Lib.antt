pub mod Turns
pub mod Operators
pub mod Passing
pub mod Paths
pub mod EvalForms
