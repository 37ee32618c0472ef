pub mod Named
pub mod Levels
pub mod WalkLaws
pub mod Casts
pub mod CastForms
