pub mod Zero
pub mod Laws
