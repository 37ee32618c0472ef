pub mod Laws
pub mod Growth
pub mod Steps
pub mod Cuts
pub mod Counts
pub mod Halves
pub mod Marks
