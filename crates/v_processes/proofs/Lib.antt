pub mod Connecting
pub mod Kept
pub mod Named
pub mod Counted
pub mod ItemParts
pub mod Entering
