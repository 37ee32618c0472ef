use Rattle.std.proofs.Common.{◌≡◌, ◌≤◌, ◌+◌, ◌-◌, ℕ, drop, length}
use Rattle.bit_sets.specs.Sets.{in_spans}
use Rattle.bit_sets.proofs.marking.next_behind.Given as goal

abbrev pub invariant-loop-at : goal.invariant-loop-at
invariant-loop-at l = (n : ℕ) → l.low + l.k ≤ n → in_spans (drop l.from l.set) n ≡ in_spans (drop l.at l.set) n

abbrev pub decreases-loop-at : goal.decreases-loop-at
decreases-loop-at l = length l.set - l.at
