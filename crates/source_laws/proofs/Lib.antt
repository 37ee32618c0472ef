pub mod Silent
pub mod Texts
