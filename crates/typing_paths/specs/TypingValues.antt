-- What crates above use of typing_values.
pub use Rattle.typing_values.specs.Children.{in_selects, in_select, in_dimensions}
pub use Rattle.typing_values.specs.Leaves.{named_alone, leaf_of}
pub use Rattle.typing_values.specs.Numbers.{width_of}
pub use Rattle.typing_values.specs.Values.{index_of, bits_of, value_of}
pub use Rattle.typing_values.specs.TypingParts.{AllCanType, CanType, IsReady}
