use Rattle.std.proofs.Common.{drop}
use Rattle.eval_parts.specs.Steps.{is_held}
use Rattle.eval_runs.specs.EvalStmts.{AllHeld}
use Rattle.run_fits.specs.Statements.{roots_in}
use Rattle.run_fits.proofs.targets.+held.Given as goal

abbrev pub invariant-are_held-loop-e : goal.invariant-are_held-loop-e
invariant-are_held-loop-e l = AllHeld (roots_in (drop l.e-index l.es)) (is_held l.held) → AllHeld (roots_in l.es) (is_held l.held)
