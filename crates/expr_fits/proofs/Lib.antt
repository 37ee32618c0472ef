pub mod OwnTypes
pub mod Likeness
pub mod Forms
pub mod Choices
pub mod Walks
