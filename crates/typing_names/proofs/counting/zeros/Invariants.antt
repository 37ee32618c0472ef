use Rattle.std.proofs.Common.{◌≡◌, ℕ, get_or, length}
use Rattle.typing_names.proofs.counting.zeros.Given as goal

abbrev pub invariant-loop-token : goal.invariant-loop-token
invariant-loop-token l = record {
  length : length l.counts ≡ l._token;
  zeros : (q : ℕ) → get_or l.counts q 0 ≡ 0;
}
