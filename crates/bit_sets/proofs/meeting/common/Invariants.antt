use Rattle.std.proofs.Common.{◌≡◌, ◌+◌, ◌-◌, ℕ, ◌&&◌, ◌||◌, drop, length}
use Rattle.bit_sets.specs.Sets.{in_spans, IsSet}
use Rattle.bit_sets.specs.Growing.{end_of, EndsBefore}
use Rattle.bit_sets.proofs.meeting.common.Given as goal

abbrev pub invariant-loop-i : goal.invariant-loop-i
invariant-loop-i l = record {
  set : IsSet l.out;
  rest_a : IsSet (drop l.i l.a);
  rest_b : IsSet (drop l.j l.b);
  before : EndsBefore (end_of 0 l.out) (drop l.i l.a) (drop l.j l.b);
  value : (n : ℕ) → (in_spans l.out n || (in_spans (drop l.i l.a) n && in_spans (drop l.j l.b) n)) ≡ (in_spans l.a n && in_spans l.b n);
}

abbrev pub decreases-loop-i : goal.decreases-loop-i
decreases-loop-i l = (length l.a - l.i) + (length l.b - l.j)
