pub mod Known
pub mod Full
pub mod Traces
pub mod Reads
pub mod Targets
