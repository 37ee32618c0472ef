use Rattle.std.proofs.Common.{drop}
use Rattle.eval_forms.specs.Callees.{formals_in}
use Rattle.eval_parts.specs.Limits.{AllFit}
use Rattle.run_fits.proofs.expressions.each_fits.Given as goal

abbrev pub invariant-loop-e : goal.invariant-loop-e
invariant-loop-e l = AllFit (drop l.e-index l.es) (formals_in l.functions) → AllFit l.es (formals_in l.functions)
