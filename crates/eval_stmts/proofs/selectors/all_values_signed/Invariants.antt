use Rattle.std.proofs.Common.{◌≡◌, drop}
use Rattle.sv_types.specs.Runs.{all_signed}
use Rattle.eval_stmts.specs.Targets.{values_of}
use Rattle.eval_stmts.proofs.selectors.all_values_signed.Given as goal

abbrev pub invariant-loop-item : goal.invariant-loop-item
invariant-loop-item l = all_signed (values_of (drop l.item-index l.items)) ≡ all_signed (values_of l.items)
