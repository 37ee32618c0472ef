mod Dropping
pub mod Before
