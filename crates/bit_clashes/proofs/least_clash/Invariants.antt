use Rattle.std.proofs.Common.{◌≡◌, ℕ, ◌<◌, ◌≤◌, ◌-◌, true}
use Rattle.bit_clashes.specs.Clashes.{sweep, start, Clash}
use Rattle.bit_clashes.proofs.least_clash.Given as goal

abbrev pub invariant-loop-low : goal.invariant-loop-low
invariant-loop-low l = record {
  order : l.low ≤ l.high;
  clashes : sweep l.high start l.pieces ≡ true;
  least : (limit : ℕ) → limit < l.low → Clash l.pieces limit → ⊥;
}

abbrev pub decreases-loop-low : goal.decreases-loop-low
decreases-loop-low l = l.high - l.low
