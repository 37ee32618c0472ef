use Rattle.std.proofs.Common.{◌≡◌, ◌≤◌, length, drop}
use Rattle.call_circles.specs.Calls as means
use Rattle.call_circles.proofs.slow.first_by_rounds.Given as goal

abbrev pub invariant-loop-at : goal.invariant-loop-at
invariant-loop-at l = record {
  within : l.at ≤ length l.calls;
  rest : l.first ≡ means.first_of (means.is_broken l.calls l.needs) (drop l.at l.calls);
}

abbrev pub decreases-loop-at : goal.decreases-loop-at
decreases-loop-at l = l.at
