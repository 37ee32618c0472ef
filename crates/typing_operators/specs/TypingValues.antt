-- What crates above use of typing_values.
pub use Rattle.typing_values.specs.Parts.{cast_meaning, pattern_meaning, range_meaning, named_path, to_name, to_word}
pub use Rattle.typing_values.specs.Values.{value_of}
pub use Rattle.typing_values.specs.Children.{in_dimensions, in_selects, in_slice}
