pub mod Connected
pub mod Processes
pub mod Stems
pub mod Connections
pub mod Naming
pub mod Walks
