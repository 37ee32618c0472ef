pub mod Keeping
pub mod RoutineFits
