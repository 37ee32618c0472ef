-- Sets that grow at their end.
use Rattle.std.specs.Prelude.{ℕ, ◌≤◌, max, Bool, ◌||◌, ⊤, List, [], ◌∷◌}
use Rattle.bit_sets.specs.declared.span.Span.{Span}
use Rattle.bit_sets.specs.declared.growing.Growing.{Growing}
use Rattle.bit_sets.specs.Sets.{covers, in_spans, IsSet}

-- where the last of the spans ends, or n where there is none
unfoldable pub end_of : ℕ → List Span → ℕ
end_of n [] = n
end_of n (s ∷ ss) = end_of s.high ss

-- the last span begins where the set ends or behind it
pub record IsGrowing (g : Growing) : Type 0 where
  pub set : IsSet g.done
  pub behind : end_of 0 g.done ≤ g.last.low
  pub forward : g.last.low ≤ g.last.high

-- whether a number lies in the set or the last span
abbrev pub grown : Growing → ℕ → Bool
grown g n = in_spans g.done n || covers g.last n

-- what ends at e ends before both lists go on
unfoldable pub EndsBefore : ℕ → List Span → List Span → Type 0
EndsBefore e [] ts = ⊤
EndsBefore e (s ∷ ss) [] = ⊤
EndsBefore e (s ∷ ss) (t ∷ ts) = e ≤ max s.low t.low
