-- The first operator that does arithmetic on too many bits.
use Rattle.std.specs.Prelude.{ℕ, nat_lt, cond, List, [], ◌∷◌, Option, Some, None}
use Rattle.expr_type.specs.Shapes.{most_arithmetic}

abbrev pub first_wide : ℕ → List ℕ → Option ℕ
first_wide w [] = None
first_wide w (at ∷ ats) = cond (nat_lt most_arithmetic w) (Some at) None
