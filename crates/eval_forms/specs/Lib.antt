pub mod Asked
pub mod Callees
pub mod Narrow
pub mod Tests
pub mod Assigned
pub mod Kinds
pub mod Repeats
