-- What steps of select paths make of a reading (IEEE 1800-2017 clauses 7.2.1, 7.4.5 and 11.5.1).
use Rattle.std.specs.Prelude.{◌≡◌, ⊤, ℕ, ◌*◌, ◌≤◌, ℤ, length, Option, Some, None, slice_get}
use Rattle.row_machine.specs.Valuation.{Valuation}
use Rattle.picks.specs.Windows.{Window, whole}
use Rattle.sv_types.specs.declared.types.SvType.{SvType}
use Rattle.sv_types.specs.Layouts.{Part, layout, count_of}
use Rattle.sv_types.specs.Windows.{member_of, element_of, between}
use Rattle.sv_types.specs.Surroundings.{Around}
use Rattle.sv_types.specs.Meanings as S
use Rattle.v_tree.specs.Names.{Name}
use Rattle.v_meaning.specs.Scopes.{Scope, named}
use Rattle.v_meaning.specs.Values as T
use Rattle.eval_parts.specs.Places.{IsNear}
use Rattle.lowering_laws.specs.Same.{SameAlone}
use Rattle.path_flatten.specs.declared.readings.Reading.{Reading}
use Rattle.path_flatten.specs.Reading.{IsVector, Reads}

-- its numbers are small, and its window lies in what it stands on
pub record IsSound (r : Reading) : Type 0 where
  pub near : IsNear r.window.shift
  pub inside : r.window.high ≤ r.width

-- a path that stands on what another one stands on, and names some of its bits
pub record IsStep (e from : S.Meaning) (a : Around) (step : Window → Window) : Type 0 where
  pub base : e.base a ≡ from.base a
  pub window : e.window a ≡ step (from.window a)

-- as many bits as a member, if there is one
abbrev pub HasPart : ℕ → Option Part → Type 0
HasPart n None = ⊤
HasPart n (Some m) = n ≡ length m.two_state

-- the reading of a member, of an element and of the elements between two bounds, from that of what they are selected from
abbrev pub ReadsMember : Reading → SvType → ℕ → Reading → Type 0
ReadsMember old t k r = (e from : S.Meaning) (a : Around) (sc : Scope) (v : Valuation) → from.of ≡ layout t
    → IsStep e from a (member_of (slice_get from.of.members k)) → HasPart (S.wide e) (slice_get from.of.members k) → Reads old from a sc v → Reads r e a sc v

abbrev pub ReadsElement : Reading → SvType → Option ℤ → Reading → Type 0
ReadsElement old t z r = (e from : S.Meaning) (a : Around) (sc : Scope) (v : Valuation) → from.of ≡ layout t
    → IsStep e from a (element_of from.of z) → S.wide e ≡ length from.of.element.two_state → Reads old from a sc v → Reads r e a sc v

abbrev pub ReadsBetween : Reading → SvType → ℤ → ℤ → Reading → Type 0
ReadsBetween old t left right r = (e from : S.Meaning) (a : Around) (sc : Scope) (v : Valuation) → from.of ≡ layout t
    → IsStep e from a (between from.of left right) → S.wide e ≡ count_of left right * length from.of.element.two_state → Reads old from a sc v → Reads r e a sc v

-- the reading of all bits of what a name of the target holds, and of what an expression of the target stands for
abbrev pub ReadsName : Name → ℕ → Reading → Type 0
ReadsName name w r = (e : S.Meaning) (a : Around) (sc : Scope) (v : Valuation) → S.wide e ≡ w → e.window a ≡ whole w
    → length (e.base a) ≡ w → IsVector (named sc.names name) w (e.base a) v → Reads r e a sc v

abbrev pub ReadsValue : T.Meaning → ℕ → Reading → Type 0
ReadsValue m w r = (e : S.Meaning) (a : Around) (sc : Scope) (v : Valuation) → S.wide e ≡ w → e.window a ≡ whole w
    → e.base a ≡ S.alone e a → length (S.alone e a) ≡ w → SameAlone e a m sc v → Reads r e a sc v
