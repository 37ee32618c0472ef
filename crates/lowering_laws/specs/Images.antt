-- Where the bits that a select path names stand in the target's vector.
use Rattle.std.specs.Prelude.{◌≡◌, ℕ, ◌+◌, ◌<◌, ℤ, List, Option, Some, None}
use Rattle.b4_core.specs.declared.bit.Bit4.{Bit4}
use Rattle.row_machine.specs.Valuation.{Valuation}
use Rattle.row_machine.specs.Places.{vector_at}
use Rattle.picks.specs.Windows.{whole, nowhere, part, picked, seen}
use Rattle.sv_types.specs.Surroundings.{Around}
use Rattle.sv_types.specs.Meanings as S
use Rattle.v_meaning.specs.Scopes.{Named}

-- a name of the target that is a vector, and holds what a path stands on
pub record IsImage (e : S.Meaning) (a : Around) (n : Named) (v : Valuation) : Type 0 where
  pub vector : n.words ≡ None
  pub holds : vector_at v n.number n.width ≡ e.base a

-- the bits that a path reads, before they are stored
abbrev pub raw : S.Meaning → Around → List Bit4
raw e a = seen (e.base a) (e.window a) (S.wide e)

-- the path's bits are those of what it stands on, which has w, from bit low on
abbrev pub Names : S.Meaning → Around → ℕ → ℕ → Type 0
Names e a low w = (j : ℕ) → j < S.wide e → picked (e.window a) j ≡ picked (whole w) (low + j)

-- all of the path's bits are out of range
abbrev pub NamesNone : S.Meaning → Around → Type 0
NamesNone e a = (j : ℕ) → j < S.wide e → picked (e.window a) j ≡ None

-- a part of another path, from an offset that is known or not
pub record IsSlide (e from : S.Meaning) (a : Around) (z : Option ℤ) : Type 0 where
  pub base : e.base a ≡ from.base a
  pub window : e.window a ≡ elim z [ None ↦ nowhere | Some k ↦ part k (S.wide e) (from.window a) ]
