use Rattle.std.proofs.Common.{◌≡◌, ◌≤◌, ◌+◌, ◌-◌, ◌++◌, ℕ, drop}
use Rattle.bit_sets.specs.Sets.{in_spans, tests_from}
use Rattle.bit_sets.proofs.marking.marks_of.Given as goal

abbrev pub invariant-loop-k : goal.invariant-loop-k
invariant-loop-k l = record {
  rest : (n : ℕ) → l.low + l.k ≤ n → in_spans l.set n ≡ in_spans (drop l.at l.set) n;
  value : l.marks ++ tests_from (in_spans l.set) (l.low + l.k) (l.count - l.k) ≡ tests_from (in_spans l.set) l.low l.count;
}
