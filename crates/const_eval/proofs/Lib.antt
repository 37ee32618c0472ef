pub mod Tops
pub mod Valuing
