-- What crates above use of operand_types.
pub use Rattle.operand_types.specs.Allowed.{IsShort}
