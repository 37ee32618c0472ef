use Rattle.std.proofs.Common.{drop}
use Rattle.eval_forms.specs.Callees.{formals_in}
use Rattle.eval_runs.specs.Functions.{EachCanRun}
use Rattle.run_fits.proofs.functions.all_can_run.Given as goal

abbrev pub invariant-loop-f : goal.invariant-loop-f
invariant-loop-f l = EachCanRun (drop l.f-index l.functions) (formals_in l.functions) → EachCanRun l.functions (formals_in l.functions)
