use Rattle.std.proofs.Common.{◌≡◌, max, drop}
use Rattle.sv_types.specs.Runs.{widest_of}
use Rattle.eval_stmts.specs.Targets.{NarrowItems, values_of}
use Rattle.eval_stmts.proofs.selectors.widest_value.Given as goal

abbrev pub invariant-loop-item : goal.invariant-loop-item
invariant-loop-item l =
    let is = drop l.item-index l.items in
    record { narrow : NarrowItems is; is : max l.width (widest_of (values_of is)) ≡ max l.least (widest_of (values_of l.items)) }
