use Rattle.std.proofs.Common.{◌≡◌, ◌-◌, ◌≤◌, ℕ, drop, length}
use Rattle.bit_sets.specs.Sets.{in_spans}
use Rattle.bit_sets.proofs.cutting.first_behind.Given as goal

abbrev pub invariant-loop-low : goal.invariant-loop-low
invariant-loop-low l = record {
  ordered : l.low ≤ l.high;
  within : l.high ≤ length l.set;
  value : (k : ℕ) → l.n ≤ k → in_spans l.set k ≡ in_spans (drop l.low l.set) k;
}

abbrev pub decreases-loop-low : goal.decreases-loop-low
decreases-loop-low l = l.high - l.low
