-- What crates above use of typing_values.
pub use Rattle.typing_values.specs.Parts.{inside, by_written_size, by_size, to_word, by_sign, system_call, call, named_path, to_name}
