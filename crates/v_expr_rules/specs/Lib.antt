pub mod Seen
pub mod Least
pub mod Operations
pub mod Walks
pub mod Things
pub mod Exact
