pub mod Places
pub mod Named
pub mod Tables
pub mod Laws
