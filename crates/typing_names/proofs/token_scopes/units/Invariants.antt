use Rattle.std.proofs.Common.{◌≡◌, ℕ, get_or}
use Rattle.typing_names.proofs.token_scopes.units.Given as goal

abbrev pub invariant-loop-token : goal.invariant-loop-token
invariant-loop-token l = (q : ℕ) → get_or l.scopes q 0 ≡ 0
