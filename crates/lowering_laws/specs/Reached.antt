-- What reads and what writes the bits of a select path in the target.
use Rattle.std.specs.Prelude.{◌≡◌, ℕ, ◌+◌, ◌≤◌, true, false, cond, ⊤, List, [], ◌∷◌, length, take, drop, Option}
use Rattle.b4_core.specs.declared.bit.Bit4.{Bit4}
use Rattle.row_machine.specs.Valuation.{Place, Valuation, Changes}
use Rattle.row_machine.specs.Steps.{unchanged, then_changes}
use Rattle.picks.specs.Windows.{Window, written}
use Rattle.sv_types.specs.Surroundings.{Around}
use Rattle.sv_types.specs.Meanings as S
use Rattle.v_meaning.specs.Scopes.{Scope}
use Rattle.v_meaning.specs.Values as T
use Rattle.v_meaning.specs.Statements.{Target}
use Rattle.lowering_laws.specs.Images.{raw, NamesNone}
use Rattle.lowering_laws.specs.Placed.{holds}

-- An expression that reads the bits of a path where a guard holds. Elsewhere all bits of the path are out of range.
pub record IsRead (e : S.Meaning) (a : Around) (guard : Option T.Meaning) (m : T.Meaning) (sc : Scope) (v : Valuation) : Type 0 where
  pub width : m.width sc ≡ S.wide e
  pub unsigned : m.signed ≡ false
  pub long : length (T.alone m sc v) ≡ S.wide e
  pub yes : holds guard sc v ≡ true → T.alone m sc v ≡ raw e a
  pub no : holds guard sc v ≡ false → NamesNone e a

-- A target for some bits of a value, which are so many from bit low on. It is written where its guard holds.
pub record Piece : Type 0 where
  pub guard : Option T.Meaning
  pub to : Target
  pub low : ℕ
  pub width : ℕ

-- what a piece changes, and what pieces do one after the other, all of their indices valued before
abbrev pub piece_puts : Piece → Scope → Valuation → List Bit4 → Changes
piece_puts p sc v bits = cond (holds p.guard sc v) (p.to.puts sc v (take p.width (drop p.low bits))) unchanged

abbrev pub pieces_put : List Piece → Scope → Valuation → List Bit4 → Changes
pieces_put [] sc v bits = unchanged
pieces_put (p ∷ ps) sc v bits = then_changes (piece_puts p sc v bits) (pieces_put ps sc v bits)

-- each target is as wide as its bits
abbrev pub AreWide : List Piece → Scope → Type 0
AreWide [] sc = ⊤
AreWide (p ∷ ps) sc = (p.to.width sc ≡ p.width) × AreWide ps sc

-- pieces of the lowest n bits
abbrev pub AreBelow : ℕ → List Piece → Type 0
AreBelow n [] = ⊤
AreBelow n (p ∷ ps) = (p.low + p.width ≤ n) × AreBelow n ps

-- Pieces that write n bits to the image with this number as a write through a path of n bits does: those that are in range.
pub record IsWritten (path : Window) (n image : ℕ) (ps : List Piece) (sc : Scope) (v : Valuation) : Type 0 where
  pub wide : AreWide ps sc
  pub below : AreBelow n ps
  pub puts : (bits : List Bit4) → length bits ≡ n → (q : Place) → pieces_put ps sc v bits q ≡ written image path bits q
