-- What crates above use of routine_fits.
pub use Rattle.routine_fits.specs.Sound.{AllSoundFunctions}
