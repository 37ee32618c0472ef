-- What crates above use of eval_stmts.
pub use Rattle.eval_runs.specs.EvalStmts.{Env}
