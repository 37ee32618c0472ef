-- What crates above use of eval_parts.
pub use Rattle.eval_parts.specs.Limits.{FitsAlone}
