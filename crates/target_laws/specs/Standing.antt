-- Where a select path stands in an image, from a place on.
use Rattle.std.specs.Prelude.{◌≡◌, ℕ, ◌+◌, ◌≤◌, ◌<◌, Option, None}
use Rattle.row_machine.specs.Valuation.{Valuation}
use Rattle.picks.specs.Windows.{picked}
use Rattle.sv_types.specs.Surroundings.{Around}
use Rattle.sv_types.specs.Meanings as S
use Rattle.v_tree.specs.Names.{Name}
use Rattle.v_meaning.specs.Scopes.{Scope, named}
use Rattle.v_meaning.specs.Values as T
use Rattle.lowering_laws.specs.Images.{Names}
use Rattle.lowering_laws.specs.Placed.{IsPlaced}

-- all of the path's bits are in range, from a known one on
pub record IsKnown (e : S.Meaning) (a : Around) (below bits : ℕ) : Type 0 where
  pub names : Names e a below bits
  pub fits : below + S.wide e ≤ bits

-- the path's bits are those of another one from a known bit on
pub record IsInside (e from : S.Meaning) (a : Around) (below : ℕ) : Type 0 where
  pub picks : (j : ℕ) → j < S.wide e → picked (e.window a) j ≡ picked (from.window a) (below + j)
  pub fits : below + S.wide e ≤ S.wide from

-- they are those of a path that a guard and an offset place
pub record IsMoved (e : S.Meaning) (a : Around) (below : ℕ) (guard : Option T.Meaning) (o : T.Meaning) (w bits : ℕ) (sc : Scope) (v : Valuation) : Type 0 where
  pub anchor : S.Meaning
  pub placed : IsPlaced anchor a guard o w bits sc v
  pub inside : IsInside e anchor a below
  pub few : S.wide anchor ≤ bits

-- a name of the target that is a vector of so many bits
pub record IsVectorOf (name : Name) (bits : ℕ) (sc : Scope) : Type 0 where
  pub vector : (named sc.names name).words ≡ None
  pub width : (named sc.names name).width ≡ bits
