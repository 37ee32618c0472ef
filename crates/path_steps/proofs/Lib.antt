pub mod Fixing
pub mod Freeing
pub mod PathNames
pub mod PathSteps
pub mod Alike
pub mod KnownSlides
