pub mod Calls
pub mod Results
pub mod Helping
pub mod Quiet
