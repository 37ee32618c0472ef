pub mod Walking
pub mod Parsing
pub mod OneReading
