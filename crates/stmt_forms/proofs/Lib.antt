pub mod Wholes
pub mod Returning
pub mod Choosing
pub mod Looping
pub mod Zeros
