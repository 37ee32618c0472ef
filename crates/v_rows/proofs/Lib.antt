pub mod KeptExpressions
pub mod KeptStatements
pub mod KeptItems
pub mod Meanings
