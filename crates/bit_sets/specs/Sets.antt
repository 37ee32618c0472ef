-- Sets of numbers as ascending spans.
use Rattle.std.specs.Prelude.{ℕ, zero, suc, ◌<◌, ◌≤◌, Bool, false, ◌&&◌, ◌||◌, nat_le, nat_lt, ⊤, cond, List, [], ◌∷◌}
use Rattle.bit_sets.specs.declared.span.Span.{Span}
use Rattle.bit_sets.specs.declared.span.Use.{Use}

-- whether a number lies in a span
abbrev pub covers : Span → ℕ → Bool
covers s n = nat_le s.low n && nat_lt n s.high

-- the span without a number
abbrev pub nothing : Span
nothing = record { low = 0; high = 0 }

-- whether it lies in one of them
unfoldable pub in_spans : List Span → ℕ → Bool
in_spans [] n = false
in_spans (s ∷ ss) n = covers s n || in_spans ss n

-- The spans stand at n or above, in ascending order, apart from each other, and none is empty.
unfoldable pub Ascending : ℕ → List Span → Type 0
Ascending n [] = ⊤
Ascending n (s ∷ ss) = (n ≤ s.low) × ((s.low < s.high) × Ascending s.high ss)

abbrev pub IsSet : List Span → Type 0
IsSet = Ascending 0

-- the tokens of the uses that a number lies in
unfoldable pub tokens_at : List Use → ℕ → List ℕ
tokens_at [] n = []
tokens_at (u ∷ us) n = cond (covers u.span n) (u.at ∷ tokens_at us n) (tokens_at us n)

-- how many of w numbers, from k on, a test holds for
unfoldable pub count_from : (ℕ → Bool) → ℕ → ℕ → ℕ
count_from f k zero = 0
count_from f k (suc w) = cond (f k) (suc (count_from f (suc k) w)) (count_from f (suc k) w)

-- what a test says of each of w numbers from k on
unfoldable pub tests_from : (ℕ → Bool) → ℕ → ℕ → List Bool
tests_from f k zero = []
tests_from f k (suc w) = f k ∷ tests_from f (suc k) w
