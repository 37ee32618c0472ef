pub mod Steps
pub mod Levels
pub mod Fits
pub mod Handing
pub mod Entering
pub mod Calling
pub mod Knots
pub mod EvalStmtsPlaces
