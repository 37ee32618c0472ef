pub mod Results
pub mod Needs
