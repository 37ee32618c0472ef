-- What crates above cite of typing_operators.
pub use Rattle.typing_operators.proofs.Premises.{call-fits}
pub use Rattle.typing_operators.proofs.Written.{children-written}
