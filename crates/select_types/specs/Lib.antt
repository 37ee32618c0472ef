pub mod Found
pub mod Selected
