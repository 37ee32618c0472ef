pub mod Held
pub mod Calls
pub mod Answers
pub mod Picks
pub mod EvalForms
