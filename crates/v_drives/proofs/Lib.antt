pub mod Made
pub mod Numbering
pub mod Covering
pub mod Tallies
pub mod Together
pub mod Counting
