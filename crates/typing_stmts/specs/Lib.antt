pub mod RoutinePaths
pub mod Around
pub mod Frames
pub mod Routines
pub mod Written
pub mod Controls
