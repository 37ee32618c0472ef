pub mod Sound
pub mod Targets
pub mod TypingFits
pub mod EvalParts
