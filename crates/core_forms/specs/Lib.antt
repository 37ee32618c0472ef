pub mod Forms
pub mod Typing
pub mod Laws
pub mod Typed
