use Rattle.std.proofs.Common.{drop}
use Rattle.eval_forms.specs.Callees.{formals_in}
use Rattle.eval_runs.specs.EvalStmts.{AllFitWide}
use Rattle.run_fits.proofs.expressions.fit_wide.Given as goal

abbrev pub invariant-loop-e : goal.invariant-loop-e
invariant-loop-e l = AllFitWide (drop l.e-index l.es) (formals_in l.functions) l.bits → AllFitWide l.es (formals_in l.functions) l.bits
