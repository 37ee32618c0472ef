pub mod Numbers
pub mod Ranges
pub mod Sums
pub mod Taking
pub mod Said
pub mod Far
