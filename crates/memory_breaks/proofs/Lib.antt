pub mod PartCounts
pub mod Marking
pub mod Naming
pub mod Statements
pub mod Writing
pub mod Least
pub mod Walking
