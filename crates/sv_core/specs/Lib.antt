pub mod Numbers
pub mod Value
pub mod Statements
pub mod Machine
