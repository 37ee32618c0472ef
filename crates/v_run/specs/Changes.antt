-- Writes in order, as changes.
use Rattle.std.specs.Prelude.{◌≡◌, ◌≤◌, ℕ, true, List, [], ◌∷◌, None, map, length, replicate, slice_index_or}
use Rattle.b4_core.specs.declared.bit.Bit4.{Bit4}
use Rattle.b4_core.specs.declared.bit.Bit4.TheVariants.{X}
use Rattle.row_machine.specs.Valuation.{Place, Changes}
use Rattle.row_machine.specs.Steps.{unchanged, then_changes}
use Rattle.picks.specs.Windows.{whole, written}
use Rattle.v_meaning.specs.Scopes.{Named, all_bits, is_signal}
use Rattle.v_eval.specs.Windows.{window_of, IsNear}
use Rattle.v_run.specs.declared.pieces.Piece.{Piece}

abbrev pub change_of : Piece → Changes
change_of p = written p.number (window_of p.window) p.bits

-- what writes change, the first one first
abbrev pub changes_of : List Piece → Changes
changes_of [] = unchanged
changes_of (p ∷ ps) = then_changes (change_of p) (changes_of ps)

-- windows don't lie too far away
abbrev pub AllNear : List Piece → Type 0
AllNear [] = Unit {0}
AllNear (p ∷ ps) = IsNear p.window × AllNear ps

-- a local that is made x
abbrev pub cleared_one : Named → Changes
cleared_one n = written n.number (whole (all_bits n)) (replicate (all_bits n) X)

-- how many bits each of these has
abbrev pub widths : List (List Bit4) → List ℕ
widths vs = map (λ (v : List Bit4). length v) vs

-- of signals that have so many bits no bit is changed that isn't there
abbrev pub Within : List ℕ → Changes → Type 0
Within ws c = (q : Place) → is_signal q.signal ≡ true → slice_index_or ws q.signal 0 ≤ q.bit → c q ≡ None
