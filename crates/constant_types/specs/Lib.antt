pub mod Known
pub mod Indices
pub mod EvalRuns
