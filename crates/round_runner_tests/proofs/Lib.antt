pub mod Assigned
pub mod Netlisted
