-- What crates above use of typing_operators.
pub use Rattle.typing_operators.specs.Children.{AllWritten, in_casts}
pub use Rattle.typing_operators.specs.Children.{AllWritten, children_in}
