pub mod Windows
pub mod RowMachine
pub mod RowMachineMachine
