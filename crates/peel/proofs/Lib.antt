pub mod Lists
pub mod Going
pub mod Ending
pub mod Laws
