-- What crates above use of typing_values.
pub use Rattle.typing_values.specs.Parts.{named_path, system_call, type_of_word, dimensioned}
