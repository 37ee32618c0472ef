pub mod Exprs
pub mod Targets
pub mod Sets
