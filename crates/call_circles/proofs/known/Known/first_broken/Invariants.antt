use Rattle.std.proofs.Common.{◌≡◌, ◌≤◌, length, drop}
use Rattle.call_circles.specs.Calls.{first_of}
use Rattle.call_circles.specs.Known as means
use Rattle.call_circles.proofs.known.Known.first_broken.Given as goal

abbrev pub invariant-loop-at : goal.invariant-loop-at
invariant-loop-at l = record {
  within : l.at ≤ length l.calls;
  rest : l.first ≡ first_of (means.is_broken l.needs l.self) (drop l.at l.calls);
}

abbrev pub decreases-loop-at : goal.decreases-loop-at
decreases-loop-at l = l.at
