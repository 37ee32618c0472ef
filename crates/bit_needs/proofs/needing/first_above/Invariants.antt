use Rattle.std.proofs.Common.{ℕ, ◌-◌, ◌<◌, ◌≤◌, length, slice_index_or}
use Rattle.bit_needs.proofs.needing.first_above.Given as goal

abbrev pub invariant-loop-low : goal.invariant-loop-low
invariant-loop-low l = record {
  order : l.low ≤ l.high;
  within : l.high ≤ length l.ends;
  before : (k : ℕ) → k < l.low → slice_index_or l.ends k 0 ≤ l.n;
}

abbrev pub decreases-loop-low : goal.decreases-loop-low
decreases-loop-low l = l.high - l.low
