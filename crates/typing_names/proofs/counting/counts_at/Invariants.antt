use Rattle.std.proofs.Common.{◌≡◌, ◌<◌, ◌+◌, ℕ, get_or, length, drop}
use Rattle.typing_names.specs.Counts.{at_token}
use Rattle.typing_names.proofs.counting.counts_at.Given as goal

abbrev pub invariant-loop-declaration : goal.invariant-loop-declaration
invariant-loop-declaration l = record {
  length : length l.counts ≡ l.count;
  counts : (q : ℕ) → q < l.count → get_or l.counts q 0 + at_token q (drop l.declaration-index l.list) ≡ at_token q l.list;
}
