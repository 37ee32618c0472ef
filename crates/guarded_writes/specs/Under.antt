-- Targets under one more condition (IEEE 1364-2005 clause 9.4).
use Rattle.std.specs.Prelude.{◌≡◌, ⊤, List, [], ◌∷◌, ◌++◌, Some}
use Rattle.v_tree.specs.declared.statements.VLval.{VLval}
use Rattle.v_meaning.specs.Statements.{Target}
use Rattle.v_meaning.specs.Values as T
use Rattle.lowering_laws.specs.Reached.{Piece}
use Rattle.lowering_laws.specs.Terms.{and_guard}
use Rattle.path_flatten.specs.Guards.{guard_meaning}
use Rattle.target_flatten.specs.declared.writes.Write.{Write}

-- the same target under one more condition
pub record IsUnder (m : T.Meaning) (x y : Write) : Type 0 where
  pub guard : guard_meaning y.guard ≡ and_guard (Some m) (guard_meaning x.guard)
  pub to : y.to ≡ x.to
  pub low : y.low ≡ x.low
  pub width : y.width ≡ x.width

-- one by one
abbrev pub AllUnder : T.Meaning → List Write → List Write → Type 0
AllUnder m [] [] = ⊤
AllUnder m [] (y ∷ ys) = ⊥
AllUnder m (x ∷ xs) [] = ⊥
AllUnder m (x ∷ xs) (y ∷ ys) = IsUnder m x y × AllUnder m xs ys

-- such targets behind others
pub record PutsUnder (m : T.Meaning) (xs old new : List Write) : Type 0 where
  pub made : List Write
  pub is : new ≡ old ++ made
  pub under : AllUnder m xs made

-- a target by what its tree means, whatever that is
abbrev pub piece_by : (VLval → Target) → Write → Piece
piece_by t x = record { guard = guard_meaning x.guard; to = t x.to; low = x.low; width = x.width }
