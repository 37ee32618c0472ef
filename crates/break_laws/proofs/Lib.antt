pub mod Lists
pub mod ActionLevels
pub mod Bounds
pub mod Early
pub mod Numbers
pub mod Writers
pub mod FitLevels
pub mod Fitting
pub mod StmtFitLevels
pub mod FlowsFit
pub mod Keeping
pub mod Standing
mod Examples
mod Unrollings
