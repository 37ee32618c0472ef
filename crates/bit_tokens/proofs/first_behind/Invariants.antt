use Rattle.std.proofs.Common.{◌≡◌, ◌-◌, ◌<◌, ◌≤◌, ℕ, drop, length, slice_index_or}
use Rattle.bit_sets.specs.Sets.{in_spans, nothing}
use Rattle.bit_tokens.proofs.first_behind.Given as goal

abbrev pub invariant-loop-low : goal.invariant-loop-low
invariant-loop-low l = record {
  ordered : l.low ≤ l.high;
  within : l.high ≤ length l.set;
  value : (k : ℕ) → l.n ≤ k → in_spans l.set k ≡ in_spans (drop l.low l.set) k;
  behind : l.high < length l.set → l.n < (slice_index_or l.set l.high nothing).high;
}

abbrev pub decreases-loop-low : goal.decreases-loop-low
decreases-loop-low l = l.high - l.low
