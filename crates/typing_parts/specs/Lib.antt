pub mod Things
pub mod Operands
pub mod Typists
pub mod RoutineFits
