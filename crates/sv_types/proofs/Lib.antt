pub mod Levels
pub mod Lengths
pub mod Cuts
pub mod Marks
pub mod Stored
pub mod Picks
pub mod Components
pub mod ReadLaws
pub mod WriteLaws
pub mod OperatorLengths
pub mod Terms
pub mod ValueLengths
pub mod TypeShapes
pub mod DoingLevels
pub mod Heads
pub mod Widths
mod Examples
