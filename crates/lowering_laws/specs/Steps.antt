-- Select paths and their steps (IEEE 1800-2017 clauses 7.2.1, 7.4.5 and 11.5.1).
use Rattle.std.specs.Prelude.{◌≡◌, ⊤, ℕ, ◌+◌, ◌*◌, ◌≤◌, Bool, false, ℤ, pos, List, [], ◌∷◌, length, Option}
use Rattle.b4_core.specs.Vectors.{ext}
use Rattle.picks.specs.Windows.{part}
use Rattle.sv_types.specs.Layouts.{Layout, count_of, stored}
use Rattle.sv_types.specs.Windows.{element_of}
use Rattle.sv_types.specs.Surroundings.{Around}
use Rattle.sv_types.specs.Meanings as S
use Rattle.lowering_laws.specs.Images.{raw}

-- A path: its value is what it reads, as its type stores it.
pub record IsPath (e : S.Meaning) (a : Around) : Type 0 where
  pub value : (w : ℕ) (s : Bool) → e.value w s a ≡ ext w s (stored e.of.two_state (raw e a))

-- a type of four-state bits, which stores what it is given
abbrev pub AllFour : List Bool → Type 0
AllFour [] = ⊤
AllFour (b ∷ bs) = (b ≡ false) × AllFour bs

-- A step to so many bits from a known bit on: a member, or a part-select in range.
pub record IsPart (e from : S.Meaning) (a : Around) (below : ℕ) : Type 0 where
  pub window : e.window a ≡ part (pos below) (S.wide e) (from.window a)
  pub within : below + S.wide e ≤ S.wide from

-- A step by an index, known or not, of which the number is z.
pub record IsElement (e from : S.Meaning) (a : Around) (z : Option ℤ) : Type 0 where
  pub window : e.window a ≡ element_of from.of z (from.window a)
  pub wide : S.wide e ≡ length from.of.element.two_state
  pub all : count_of from.of.left from.of.right * length from.of.element.two_state ≡ S.wide from

-- an array `[last:0]`
pub record CountsDown (of : Layout) (last : ℕ) : Type 0 where
  pub left_is : of.left ≡ pos last
  pub right_is : of.right ≡ pos 0
