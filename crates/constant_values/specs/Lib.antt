pub mod Rules
pub mod Valuing
pub mod Parameters
