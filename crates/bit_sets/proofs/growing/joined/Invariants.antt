use Rattle.std.proofs.Common.{◌≡◌, ◌+◌, ◌-◌, ℕ, ◌||◌, drop, length}
use Rattle.bit_sets.specs.Sets.{in_spans, Ascending}
use Rattle.bit_sets.specs.Growing.{IsGrowing, grown}
use Rattle.bit_sets.proofs.growing.joined.Given as goal

abbrev pub invariant-loop-i : goal.invariant-loop-i
invariant-loop-i l = record {
  growing : IsGrowing l.growing;
  behind_a : Ascending l.growing.last.low (drop l.i l.a);
  behind_b : Ascending l.growing.last.low (drop l.j l.b);
  value : (n : ℕ) → (grown l.growing n || (in_spans (drop l.i l.a) n || in_spans (drop l.j l.b) n)) ≡ (in_spans l.a n || in_spans l.b n);
}

abbrev pub decreases-loop-i : goal.decreases-loop-i
decreases-loop-i l = (length l.a - l.i) + (length l.b - l.j)
