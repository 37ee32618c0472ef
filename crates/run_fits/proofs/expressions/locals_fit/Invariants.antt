use Rattle.std.proofs.Common.{drop}
use Rattle.eval_forms.specs.Callees.{formals_in}
use Rattle.eval_runs.specs.EvalStmts.{AllLocalsFit}
use Rattle.run_fits.proofs.expressions.locals_fit.Given as goal

abbrev pub invariant-loop-l : goal.invariant-loop-l
invariant-loop-l l = AllLocalsFit (drop l.l-index l.ls) (formals_in l.functions) → AllLocalsFit l.ls (formals_in l.functions)
