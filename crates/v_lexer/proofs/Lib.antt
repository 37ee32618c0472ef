pub mod Begins
pub mod Cuts
pub mod Decimals
pub mod Marks
pub mod Scans
pub mod Tokens
