pub mod Sets
pub mod Growing
