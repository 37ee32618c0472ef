pub mod Quiet
pub mod Exprs
pub mod Prefixes
