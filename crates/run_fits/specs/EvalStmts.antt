-- What crates above use of eval_stmts.
pub use Rattle.eval_runs.specs.EvalStmts.{AllHeld}
pub use Rattle.eval_runs.specs.EvalStmts.{StmtFits, AllStmtsFit, PerhapsFits, AllItemsFit, AllLocalsFit, StartFits}
pub use Rattle.eval_runs.specs.EvalStmts.{values_of, AllFitWide, ItemsFitWide, roots_of_all}
