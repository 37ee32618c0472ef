-- What crates above use of typing_parts.
pub use Rattle.typing_parts.specs.declared.known.Known.{Known}
pub use Rattle.typing_parts.specs.Typists.{AllCanType, CanType, FitsIfOk, NarrowIfOk, IsReady}
pub use Rattle.typing_parts.specs.Operands.{as_operand}
