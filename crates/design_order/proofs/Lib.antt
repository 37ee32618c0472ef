pub mod Finding
pub mod Running
