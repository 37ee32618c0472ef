-- What crates above cite of typing_values.
pub use Rattle.typing_values.proofs.Operands.{value-narrow, bits-narrow}
