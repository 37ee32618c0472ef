pub mod Lists
pub mod Forms
pub mod ByForm
pub mod Counting
pub mod Walks
