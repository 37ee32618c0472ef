pub mod Words
pub mod Declarations
pub mod Statements
pub mod Items
pub mod Attributes
pub mod Reading
