pub mod BitSets
pub mod Firsts
pub mod Keeping
pub mod Sets
