use Rattle.std.proofs.Common.{◌≡◌, ℕ, ◌≤◌, ◌||◌, drop, length}
use Rattle.bit_sets.specs.Sets.{in_spans, Ascending}
use Rattle.bit_sets.specs.Growing.{IsGrowing, grown}
use Rattle.bit_sets.proofs.growing.Growing.add_all.Given as goal

abbrev pub invariant-loop-k : goal.invariant-loop-k
invariant-loop-k l = record {
  growing : IsGrowing l.self;
  nothing : length l.spans ≤ l.from → l.self ≡ l.fn.self;
  behind : Ascending l.self.last.low (drop l.k l.spans);
  value : (n : ℕ) → (grown l.self n || in_spans (drop l.k l.spans) n) ≡ (grown l.fn.self n || in_spans (drop l.from l.spans) n);
}
