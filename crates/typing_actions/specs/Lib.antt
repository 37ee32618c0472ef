pub mod Actuals
pub mod Forms
pub mod Walks
pub mod Loops
pub mod ControlsWritten
pub mod Conditions
pub mod Calls
pub mod TaskActuals
