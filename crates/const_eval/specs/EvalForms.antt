-- What crates above use of eval_forms.
pub use Rattle.eval_forms.specs.Callees.{formals_in}
