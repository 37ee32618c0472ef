-- What crates above cite of eval_forms.
pub use Rattle.eval_forms.proofs.Formals.{formals-within}
