-- What crates above cite of typing_operators.
pub use Rattle.typing_operators.proofs.OperandLaws.{plain-fine, plain-stops}
