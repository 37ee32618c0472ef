-- Which bits uses and writes speak of.
use Rattle.std.specs.Prelude.{ℕ, Bool, false, ◌&&◌, ◌||◌, nat_lt, max, min, cond, List, [], ◌∷◌}
use Rattle.bit_sets.specs.declared.span.Span.{Span}
use Rattle.bit_sets.specs.declared.span.Use.{Use}
use Rattle.bit_sets.specs.Sets.{covers}
use Rattle.flow_sets.specs.declared.uses.Write.{Write}

-- whether a number lies in one of the writes that are of exactly their bits
unfoldable pub surely : List Write → ℕ → Bool
surely [] n = false
surely (w ∷ ws) n = (w.exact && covers w.of.span n) || surely ws n

-- whether two spans have a number in common
abbrev pub touches : Span → Span → Bool
touches a b = nat_lt (max a.low b.low) (min a.high b.high)

-- the tokens of those uses that touch a span
unfoldable pub met : Span → List Use → List ℕ
met s [] = []
met s (u ∷ us) = cond (touches u.span s) (u.at ∷ met s us) (met s us)
