pub mod PathForms
pub mod Lists
pub mod Typed
pub mod Walking
