-- The expressions that offsets are made of.
use Rattle.std.specs.Prelude.{⊤, ℕ, ◌-◌, ◌≤◌, Bool, true, false, cond, ℤ, pos, ◌+ℤ◌, ◌-ℤ◌}
use Rattle.v_meaning.specs.Values as T
use Rattle.lowering_laws.specs.Terms.{above, under}
use Rattle.path_flatten.specs.declared.offsets.Offset.{Offset}
use Rattle.path_flatten.specs.declared.offsets.Offset.TheVariants as O

-- how far a signed index lies above a bound, or under it
abbrev pub distance_term : Bool → T.Meaning → ℕ → ℤ → T.Meaning
distance_term true m w n = above m w n
distance_term false m w n = under m w n

-- an index of an offset has at most 64 bits
abbrev pub IsNarrow : Offset → Type 0
IsNarrow (O.Index x) = x.width ≤ 64
IsNarrow (O.Sum e bits) = ⊤

-- the index at which n elements begin at the lowest one, by the right bound and whether bounds fall
abbrev pub origin_by : ℤ → Bool → Bool → ℕ → ℤ
origin_by right falls true n = cond falls right (right -ℤ pos (n - 1))
origin_by right falls false n = cond falls (right +ℤ pos (n - 1)) right
