pub mod Scopes
pub mod Selects
pub mod Values
pub mod Runs
pub mod Statements
pub mod Functions
pub mod Modules
pub mod Machine
