pub mod Stopping
pub mod OneAnswer
