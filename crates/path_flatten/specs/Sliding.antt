-- Steps by an index that is known only when the text runs (IEEE 1800-2017 clauses 7.4.5 and 11.5.1).
use Rattle.std.specs.Prelude.{◌≡◌, ℕ, ◌*◌, ◌≤◌, Bool, ℤ, List, ◌++◌, length, Option, Some, None}
use Rattle.b4_core.specs.declared.bit.Bit4.{Bit4}
use Rattle.row_machine.specs.Valuation.{Valuation}
use Rattle.picks.specs.Windows.{whole, nowhere, part, seen}
use Rattle.sv_types.specs.declared.types.SvType.{SvType}
use Rattle.sv_types.specs.Layouts.{layout}
use Rattle.sv_types.specs.Windows.{element_of, slide}
use Rattle.sv_types.specs.Surroundings.{Around}
use Rattle.sv_types.specs.Meanings as S
use Rattle.sv_types.specs.Paths as P
use Rattle.v_tree.specs.declared.names.Helper.{Helper}
use Rattle.v_meaning.specs.Scopes.{Scope}
use Rattle.v_meaning.specs.Values as T
use Rattle.v_meaning.specs.Values.{meaning, number_of}
use Rattle.eval_parts.specs.declared.paths.Window.{Window as Span}
use Rattle.eval_parts.specs.Places.{window_of}
use Rattle.v_tree.specs.Names.{Name}
use Rattle.lowering_laws.specs.Same.{SameAlone, HasBits}
use Rattle.lowering_laws.specs.Signed.{IsIndex}
use Rattle.lowering_laws.specs.Slid.{begins, IsSignedOffset}
use Rattle.path_flatten.specs.declared.offsets.Index.{Index}
use Rattle.path_flatten.specs.declared.offsets.Offset.{Offset}
use Rattle.path_flatten.specs.declared.offsets.Offset.TheVariants as O
use Rattle.path_flatten.specs.declared.offsets.Argument.{Argument}
use Rattle.path_flatten.specs.declared.readings.Root.{Root}
use Rattle.path_flatten.specs.declared.readings.Root.TheVariants as R
use Rattle.path_flatten.specs.declared.readings.Reading.{Reading}
use Rattle.path_flatten.specs.Helping.{EachHelps}
use Rattle.path_flatten.specs.Naming.{SameNumbers, root_names}
use Rattle.path_flatten.specs.Reading.{HasRoot, StaysIn, Reads, IsPassed}
use Rattle.path_flatten.specs.Stepping.{IsStep}

-- a lowered index stands for one of the source
pub record IsIndexOf (x : Index) (i : S.Meaning) (a : Around) (sc : Scope) (v : Valuation) : Type 0 where
  pub width : x.width ≡ S.wide i
  pub sign : S.signed i ≡ x.signed
  pub some : 1 ≤ S.wide i
  pub long : length (S.alone i a) ≡ S.wide i
  pub same : SameAlone i a (meaning x.expr) sc v

-- it, as a signed number of so many bits
abbrev pub IsSignedIndex : Index → T.Meaning → ℕ → Type 0
IsSignedIndex x m w = (i : S.Meaning) (a : Around) (sc : Scope) (v : Valuation) → IsIndexOf x i a sc v → IsIndex (P.index_of i a) m w sc v

-- it stands for one with this number, if it has one
pub record HasNumber (x : Index) (z : Option ℤ) (sc : Scope) (v : Valuation) : Type 0 where
  pub index : S.Meaning
  pub around : Around
  pub is : IsIndexOf x index around sc v
  pub number : P.index_of index around ≡ z

-- an offset has this number, if there is one
abbrev pub IsOffset : Offset → Option ℤ → Scope → Valuation → Type 0
IsOffset (O.Index x) z sc v = HasNumber x z sc v
IsOffset (O.Sum e bits) z sc v = IsSignedOffset z (meaning e) bits sc v × (1 ≤ bits)

-- where so many elements of a type begin, from an index on
abbrev pub IsOffsetOf : Index → SvType → Bool → ℕ → Offset → Type 0
IsOffsetOf x t up n o = (i : S.Meaning) (a : Around) (sc : Scope) (v : Valuation) → IsIndexOf x i a sc v → 1 ≤ length (layout t).element.two_state
    → IsOffset o (begins (layout t) up n (P.index_of i a)) sc v

-- an offset as the base of a select of a name, and as a signed argument of so many bits
abbrev pub IsBase : Offset → T.Meaning → Type 0
IsBase o m = (z : Option ℤ) (sc : Scope) (v : Valuation) → IsOffset o z sc v → number_of m.signed (T.alone m sc v) ≡ z

abbrev pub IsArgument : Offset → Argument → Type 0
IsArgument o x = (z : Option ℤ) (sc : Scope) (v : Valuation) → IsOffset o z sc v → IsPassed (meaning x.expr) x.bits z sc v

-- n bits of a vector, from a number on, if there is one
abbrev pub slid : List Bit4 → ℕ → ℕ → Option ℤ → List Bit4
slid c w n z = seen c (elim z [ None ↦ nowhere | Some k ↦ part k n (whole w) ]) n

-- n bits of the w bits of a reading, from an offset on
abbrev pub Slides : Reading → ℕ → ℕ → Offset → List Helper → T.Meaning → Type 0
Slides r w n o hs m = (c : List Bit4) (z : Option ℤ) (sc : Scope) (v : Valuation) → HasRoot r.root r.width c sc v → length c ≡ r.width → r.window.high ≤ r.width
    → StaysIn (window_of r.window) w → 1 ≤ w → w ≤ 4194304 → 1 ≤ n → IsOffset o z sc v → EachHelps hs sc
    → HasBits m (slid (seen c (window_of r.window) w) w n z) sc v

-- the reading of so many elements from an index on, and of the element with an index, from that of what they are selected from
abbrev pub ReadsSlide : Reading → SvType → Bool → ℕ → Index → List Helper → Reading → Type 0
ReadsSlide old t up n x hs r = (e from i : S.Meaning) (a : Around) (sc : Scope) (v : Valuation) → from.of ≡ layout t
    → IsStep e from a (slide from.of up n (P.index_of i a)) → S.wide e ≡ n * length from.of.element.two_state → 1 ≤ S.wide e → 1 ≤ S.wide from
    → IsIndexOf x i a sc v → EachHelps hs sc → Reads old from a sc v → Reads r e a sc v

abbrev pub ReadsIndex : Reading → SvType → Index → List Helper → Reading → Type 0
ReadsIndex old t x hs r = (e from i : S.Meaning) (a : Around) (sc : Scope) (v : Valuation) → from.of ≡ layout t
    → IsStep e from a (element_of from.of (P.index_of i a)) → S.wide e ≡ length from.of.element.two_state → 1 ≤ S.wide e → 1 ≤ S.wide from
    → IsIndexOf x i a sc v → EachHelps hs sc → Reads old from a sc v → Reads r e a sc v

-- what an offset names, and what names the same
abbrev pub offset_names : Offset → Scope → List ℕ
offset_names (O.Index x) sc = (meaning x.expr).names sc
offset_names (O.Sum e bits) sc = (meaning e).names sc

abbrev pub NamesOffset : Offset → T.Meaning → Type 0
NamesOffset o m = (sc : Scope) → SameNumbers (offset_names o sc) (m.names sc)

abbrev pub NamesIndex : Index → Offset → Type 0
NamesIndex x o = (sc : Scope) → SameNumbers ((meaning x.expr).names sc) (offset_names o sc)

abbrev pub NamesSlide : Root → Offset → T.Meaning → Type 0
NamesSlide root o m = (sc : Scope) → SameNumbers (root_names root sc ++ offset_names o sc) (m.names sc)

-- a window that is all of a vector of w bits, and a reading that is all of a name of w bits
pub record IsEntire (width : ℕ) (window : Span) (w : ℕ) : Type 0 where
  pub width_is : width ≡ w
  pub window_is : window_of window ≡ whole w

pub record IsWholeName (r : Reading) (w : ℕ) (name : Name) : Type 0 where
  pub root_is : r.root ≡ R.Name name
  pub width_is : r.width ≡ w
  pub window_is : window_of r.window ≡ whole w
