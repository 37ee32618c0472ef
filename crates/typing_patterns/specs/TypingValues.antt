-- What crates above use of typing_values.
pub use Rattle.typing_values.specs.Children.{in_cast, in_pattern}
pub use Rattle.typing_values.specs.Parts.{cast_meaning, by_size, pattern_meaning, call}
pub use Rattle.typing_values.specs.Numbers.{operand_number, CanBeValued}
