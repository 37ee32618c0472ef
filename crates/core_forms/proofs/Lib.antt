pub mod Levels
pub mod Gathering
pub mod Expressions
pub mod Induction
pub mod Statements
pub mod Machines
pub mod TypedLevels
pub mod Vectors
