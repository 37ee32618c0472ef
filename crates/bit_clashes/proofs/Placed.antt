-- Pieces whose instances and tokens have 32 bits.
use Rattle.std.proofs.Common.{inl, inr, ℕ, ◌+◌, ◌<◌, ◌≤◌, List, length, slice_index_or, sym, ◌∙◌, subst, arith}
use Rattle.std.proofs.lemmas.Bool.{cases_eq}
use Rattle.std.proofs.lemmas.List.{get_or_default}
use Rattle.row_machine.proofs.Members.{member-place}
use Rattle.bit_clashes.specs.declared.Piece.{Piece}
use Rattle.bit_clashes.specs.Clashes.{IsPlaced, ArePlaced}
use Rattle.bit_clashes.proofs.Sweeping.{no_piece}

-- the first k pieces
abbrev pub PlacedUpTo : List Piece → ℕ → Type 0
PlacedUpTo ps k = (j : ℕ) → j < k → IsPlaced (slice_index_or ps j no_piece)

pub placed-start : (ps : List Piece) → PlacedUpTo ps 0
placed-start ps j low = absurd (omega (arith, low))

pub placed-more : (ps : List Piece) (k : ℕ) → PlacedUpTo ps k → IsPlaced (slice_index_or ps k no_piece) → PlacedUpTo ps (k + 1)
placed-more ps k h is j low = elim (cases_eq j k) [
  | inl same ↦ subst (λ n. IsPlaced (slice_index_or ps n no_piece)) (sym same) is
  | inr other ↦ h j (omega (arith, low, other))
]

pub placed-all : (ps : List Piece) (k : ℕ) → length ps ≤ k → PlacedUpTo ps k → ArePlaced ps
placed-all ps k all h p m =
    let r = member-place ps p m in
    subst IsPlaced (get_or_default ps r.0 no_piece p r.1 ∙ r.2) (h r.0 (let low = r.1 in omega (arith, low, all)))

pub ruleset placed_laws = (placed-start, placed-more, placed-all)
