use Rattle.std.proofs.Common.{◌≡◌, ◌<◌, ℕ, get_or, length}
use Rattle.typing_names.specs.Counts.{before_token}
use Rattle.typing_names.proofs.counting.counts_before.Given as goal

abbrev pub invariant-loop-token : goal.invariant-loop-token
invariant-loop-token l = record {
  length : length l.before ≡ l.token;
  sum : l.sum ≡ before_token l.token l.list;
  before : (q : ℕ) → q < l.token → get_or l.before q 0 ≡ before_token q l.list;
}
