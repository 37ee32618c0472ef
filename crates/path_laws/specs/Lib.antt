pub mod Bases
pub mod Names
pub mod Targets
pub mod Statements
pub mod Laws
