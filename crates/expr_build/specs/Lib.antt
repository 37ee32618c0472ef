pub mod Nodes
pub mod Words
pub mod Expressions
pub mod Types
