-- Those who write a number of a span.
use Rattle.std.specs.Prelude.{◌≡◌, ◌⊎◌, ℕ, ◌<◌, max, min, nat_lt, Bool, true, List, length, slice_index_or}
use Rattle.row_machine.specs.Valuation.{Member}
use Rattle.bit_sets.specs.declared.span.Span.{Span}
use Rattle.bit_sets.specs.Sets.{nothing}
use Rattle.bit_needs.specs.declared.writers.Written.{Written}
use Rattle.bit_needs.specs.Writers.{no_piece}

-- whether two spans have a number in common
abbrev pub touches : Span → Span → Bool
touches a b = nat_lt (max a.low b.low) (min a.high b.high)

-- a piece of q has a number in common with a span
pub record IsTouched (ws : List Written) (s : Span) (q : ℕ) : Type 0 where
  pub at : ℕ
  pub within : at < length ws
  pub common : touches (slice_index_or ws at no_piece).span s ≡ true
  pub by : (slice_index_or ws at no_piece).by ≡ q

-- or with one of some spans
pub record IsTouchedBy (ws : List Written) (reads : List Span) (q : ℕ) : Type 0 where
  pub place : ℕ
  pub within : place < length reads
  pub touched : IsTouched ws (slice_index_or reads place nothing) q

-- a list with one more number, perhaps
pub record AddsOne (q : ℕ) (old new : List ℕ) : Type 0 where
  pub kept : (p : ℕ) → Member old p → Member new p
  pub added : Member new q
  pub only : (p : ℕ) → Member new p → Member old p ⊎ (p ≡ q)

-- a list with all that a span touches, and no more than these
pub record AddsTouched (ws : List Written) (s : Span) (old new : List ℕ) : Type 0 where
  pub kept : (p : ℕ) → Member old p → Member new p
  pub added : (q : ℕ) → IsTouched ws s q → Member new q
  pub only : (q : ℕ) → Member new q → Member old q ⊎ IsTouched ws s q

-- those that one of some spans touches
pub record AreTouched (ws : List Written) (reads : List Span) (qs : List ℕ) : Type 0 where
  pub every : (q : ℕ) → IsTouchedBy ws reads q → Member qs q
  pub only : (q : ℕ) → Member qs q → IsTouchedBy ws reads q
