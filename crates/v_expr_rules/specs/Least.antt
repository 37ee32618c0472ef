-- The first of the tokens at which rules are broken.
use Rattle.std.specs.Prelude.{ℕ, min, List, [], ◌∷◌, Option, Some, None}
use Rattle.v_expr_rules.specs.Seen.{last_token, earlier}

abbrev pub least : List ℕ → Option ℕ
least [] = None
least (n ∷ ns) = earlier (Some n) (least ns)

-- a number of a token, or the greatest number of 32 bits
abbrev pub cap : ℕ → ℕ
cap n = min n last_token

abbrev pub capped : Option ℕ → Option ℕ
capped None = None
capped (Some n) = Some (cap n)

abbrev pub first : List ℕ → Option ℕ
first ns = capped (least ns)
