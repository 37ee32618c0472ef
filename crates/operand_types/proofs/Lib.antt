pub mod Allowing
pub mod Sums
