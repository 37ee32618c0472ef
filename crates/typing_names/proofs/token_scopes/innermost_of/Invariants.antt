use Rattle.std.proofs.Common.{◌≡◌, ◌<◌, ℕ, length, drop, get_or}
use Rattle.package_scope.specs.Innermost.{last_holder}
use Rattle.typing_names.proofs.token_scopes.innermost_of.Given as goal

abbrev pub invariant-loop-number : goal.invariant-loop-number
invariant-loop-number l = (q : ℕ) → q < length l.scopes → last_holder (get_or l.scopes q 0) l.number q (drop l.number l.list) ≡ last_holder 0 0 q l.list
