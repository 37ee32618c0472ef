use Rattle.std.proofs.Common.{◌≡◌, map, drop}
use Rattle.sv_types.specs.Expressions.{meaning}
use Rattle.sv_types.specs.Runs.{all_signed}
use Rattle.eval_stmts.proofs.selectors.are_all_signed.Given as goal

abbrev pub invariant-loop-e : goal.invariant-loop-e
invariant-loop-e l = all_signed (map meaning (drop l.e-index l.es)) ≡ all_signed (map meaning l.es)
