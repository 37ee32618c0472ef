-- What crates above use of picks.
pub use Rattle.eval_parts.specs.Picks.{Window, whole, written}
