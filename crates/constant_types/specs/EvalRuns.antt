-- What crates above use of eval_runs.
pub use Rattle.const_eval.specs.EvalRuns.{AllCanRun}
