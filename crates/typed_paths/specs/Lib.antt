pub mod Typed
pub mod Tests
