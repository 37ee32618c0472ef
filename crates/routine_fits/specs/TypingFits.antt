-- What crates above use of typing_fits.
pub use Rattle.typing_fits.specs.Sound.{Extends}
