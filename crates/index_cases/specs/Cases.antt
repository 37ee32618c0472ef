-- Targets under one more condition each (IEEE 1800-2017 clauses 10.4 and 11.5.1).
use Rattle.std.specs.Prelude.{◌≡◌, ℕ, Bool, cond, List, [], ◌∷◌, map, length, Some, None}
use Rattle.b4_core.specs.declared.bit.Bit4.{Bit4}
use Rattle.b4_core.specs.declared.operators.EqOp.TheVariants.{Case}
use Rattle.row_machine.specs.Valuation.{Place, Valuation}
use Rattle.picks.specs.Windows.{Window, written}
use Rattle.v_meaning.specs.Scopes.{Scope}
use Rattle.v_meaning.specs.Values as T
use Rattle.lowering_laws.specs.Reached.{Piece, AreWide, AreBelow, pieces_put}
use Rattle.lowering_laws.specs.Terms.{and_guard}

-- the condition that something, valued alone, has exactly these bits
abbrev pub matching : T.Meaning → List Bit4 → T.Meaning
matching e bits = T.equal Case (T.concatenation (e ∷ [])) (T.literal bits)

-- pieces under one more condition
abbrev pub under : T.Meaning → Piece → Piece
under m p = record p { guard = and_guard (Some m) p.guard }

abbrev pub all_under : T.Meaning → List Piece → List Piece
all_under m ps = map (under m) ps

-- Pieces that write n bits to an image as a write through a path does, where so much is said; else they change nothing.
pub record IsWrittenIf (said : Bool) (path : Window) (n image : ℕ) (ps : List Piece) (sc : Scope) (v : Valuation) : Type 0 where
  pub wide : AreWide ps sc
  pub below : AreBelow n ps
  pub puts : (bits : List Bit4) → length bits ≡ n → (q : Place) → pieces_put ps sc v bits q ≡ cond said (written image path bits q) None
