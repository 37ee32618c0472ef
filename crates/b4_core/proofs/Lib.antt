pub mod Examples
pub mod Digits
pub mod Squaring
pub mod Numbers
pub mod TwosComplement
pub mod Operations
