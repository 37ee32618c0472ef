use Rattle.std.proofs.Common.{◌≡◌, drop}
use Rattle.stmt_types.specs.Cases.{or_wide, wides}
use Rattle.stmt_types.proofs.cases.are_wide.Given as goal

abbrev pub invariant-loop-item : goal.invariant-loop-item
invariant-loop-item l = or_wide l.wide (wides (drop l.item-index l.items)) ≡ wides l.items
