-- What crates above use of typing_values.
pub use Rattle.typing_values.specs.Parts.{by_sign, by_size, by_written_size}
