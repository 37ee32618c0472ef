pub mod Stores
pub mod OneRun
pub mod Ran
pub mod Fitting
pub mod DesignRuns
pub mod Answering
pub mod Causes
pub mod Promises
