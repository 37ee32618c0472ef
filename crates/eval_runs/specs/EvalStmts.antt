-- What crates above use of eval_stmts.
pub use Rattle.eval_stmts.specs.Limits.{StmtFits, AllStmtsFit, PerhapsFits, AllItemsFit, LocalFits, AllLocalsFit, StartFits, Keeps, perhaps, widest_place, width_of_locals}
pub use Rattle.eval_stmts.specs.declared.env.Env.{Env}
pub use Rattle.eval_stmts.specs.Environments.{updates, AllHeld}
pub use Rattle.eval_stmts.specs.Stepping.{IsAt, StepGives, step_of}
pub use Rattle.eval_stmts.specs.Targets.{AssignFits, CaseFits, AllFitWide, ItemsFitWide, values_of, roots_of_all}
