-- What crates above use of eval_runs.
pub use Rattle.eval_runs.specs.Functions.{AllCanRun}
