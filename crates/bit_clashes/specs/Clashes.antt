-- Two things that write one number.
use Rattle.std.specs.Prelude.{◌≡◌, ℕ, ◌+◌, ◌*◌, ◌<◌, ◌^◌, ◌-◌, max, min, Bool, true, false, ◌&&◌, ◌==◌, nat_lt, nat_le, cond, List, [], ◌∷◌, Option, Some, None}
use Rattle.row_machine.specs.Valuation.{Member}
use Rattle.bit_sets.specs.declared.span.Span.{Span}
use Rattle.bit_clashes.specs.declared.Piece.{Piece}
use Rattle.bit_clashes.specs.declared.Reach.{Reach}

abbrev pub low_of : Piece → ℕ
low_of p = p.span.low

abbrev pub place_of : Piece → ℕ
place_of p = p.instance * 2 ^ 32 + p.at

-- numbers of instances and tokens have 32 bits
abbrev pub IsPlaced : Piece → Type 0
IsPlaced p = (p.instance < 2 ^ 32) × (p.at < 2 ^ 32)

abbrev pub ArePlaced : List Piece → Type 0
ArePlaced ps = (p : Piece) → Member ps p → IsPlaced p

-- a piece stands at a place or before it, and has a number
abbrev pub counts : ℕ → Piece → Bool
counts limit p = nat_le (place_of p) limit && nat_lt p.span.low p.span.high

abbrev pub touches : Span → Span → Bool
touches a b = nat_lt (max a.low b.low) (min a.high b.high)

-- two of the pieces that stand there or before have a number in common, and are of two things
pub record Clash (ps : List Piece) (limit : ℕ) : Type 0 where
  pub one : Piece
  pub two : Piece
  pub one_in : Member ps one
  pub two_in : Member ps two
  pub apart : (one.by == two.by) ≡ false
  pub one_counts : counts limit one ≡ true
  pub two_counts : counts limit two ≡ true
  pub meets : touches one.span two.span ≡ true

-- the least place for which that holds
pub record IsLeastAt (ps : List Piece) (at : ℕ) : Type 0 where
  pub clashes : Clash ps at
  pub least : (limit : ℕ) → limit < at → Clash ps limit → ⊥

abbrev pub IsLeastClash : List Piece → Option ℕ → Type 0
IsLeastClash ps None = Clash ps (2 ^ 64 - 1) → ⊥
IsLeastClash ps (Some at) = IsLeastAt ps at

-- how it is found, piece by piece in the order of their first numbers
abbrev pub start : Reach
start = record { end = 0; by = 0; other = 0 }

abbrev pub end_of_others : Reach → ℕ → ℕ
end_of_others r by = cond (by == r.by) r.other r.end

abbrev pub meets_other : Reach → Piece → Bool
meets_other r p = nat_lt p.span.low (end_of_others r p.by)

abbrev pub grown : Reach → Piece → Reach
grown r p =
    cond (p.by == r.by) (record r { end = max r.end p.span.high })
    (cond (nat_lt r.end p.span.high) (record { end = p.span.high; by = p.by; other = r.end }) (record r { other = max r.other p.span.high }))

unfoldable pub sweep : ℕ → Reach → List Piece → Bool
sweep limit r [] = false
sweep limit r (p ∷ ps) = cond (counts limit p) (cond (meets_other r p) true (sweep limit (grown r p) ps)) (sweep limit r ps)
