use Rattle.std.proofs.Common.{◌≡◌, ℕ, true, ◌<◌}
use Rattle.call_circles.specs.Ways as means
use Rattle.call_circles.proofs.ways.are_ways.Given as goal

abbrev pub invariant-loop-routine : goal.invariant-loop-routine
invariant-loop-routine l = (r : ℕ) → r < l.routine → means.is_way_if l.calls l.ways r (means.way_from l.ways r) ≡ true
