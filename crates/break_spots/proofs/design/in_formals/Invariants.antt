use Rattle.std.proofs.Common.{◌≡◌, drop}
use Rattle.std.specs.Prelude.{option_copied}
use Rattle.break_spots.specs.Walk.{formals_walk}
use Rattle.break_spots.proofs.design.in_formals.Given as goal

abbrev pub invariant-loop-formal : goal.invariant-loop-formal
invariant-loop-formal l = formals_walk l.at (drop l.formal-index l.formals) (option_copied l.first) ≡ formals_walk l.at l.formals (option_copied l.found)
