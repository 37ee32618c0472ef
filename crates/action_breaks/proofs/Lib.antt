pub mod Rooted
pub mod Tokened
pub mod Lesser
