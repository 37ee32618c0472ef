-- How many declarations stand at a token and before it.
use Rattle.std.specs.Prelude.{◌≡◌, ◌<◌, ◌+◌, ℕ, nat_eq, nat_lt, cond, List, length, filter, slice_index}
use Rattle.package_scope.specs.declared.table.Declaration.{Declaration}

abbrev pub at_token : ℕ → List Declaration → ℕ
at_token q ds = length (filter (λ (d : Declaration). nat_eq d.at q) ds)

abbrev pub before_token : ℕ → List Declaration → ℕ
before_token q ds = length (filter (λ (d : Declaration). nat_lt d.at q) ds)

-- one more is counted at a token
abbrev pub CountsMore : ℕ → List ℕ → List ℕ → Type 0
CountsMore token before after = (q : ℕ) → q < length before → slice_index after q ≡ slice_index before q + cond (nat_eq token q) 1 0
