-- What reads an element that stands in a word of a memory (IEEE 1364-2005 clause 4.9).
use Rattle.std.specs.Prelude.{◌≡◌, ℕ, ◌*◌, ℤ, [], ◌∷◌, length, Option, None}
use Rattle.row_machine.specs.Valuation.{Valuation}
use Rattle.sv_types.specs.declared.types.SvType.{SvType}
use Rattle.sv_types.specs.Layouts.{layout, count_of}
use Rattle.sv_types.specs.Windows.{element_of}
use Rattle.sv_types.specs.Surroundings.{Around}
use Rattle.sv_types.specs.Meanings as S
use Rattle.v_tree.specs.Names.{Name}
use Rattle.v_tree.specs.declared.expressions.VExpr.{VExpr}
use Rattle.v_meaning.specs.Scopes.{Scope, named}
use Rattle.v_meaning.specs.Values.{meaning}
use Rattle.lowering_laws.specs.Steps.{IsPath}
use Rattle.lowering_laws.specs.Words.{IsMemory, IsWord}
use Rattle.path_flatten.specs.declared.readings.Reading.{Reading}
use Rattle.path_flatten.specs.Naming.{SameNumbers, root_names}
use Rattle.path_flatten.specs.Reading.{Reads}
use Rattle.path_flatten.specs.Stepping.{IsStep}

-- The element with an index, of an array whose elements a memory holds, is read wherever a number is that of the index' word, or
-- that of no word where no element has the index.
abbrev pub ReadsWord : Name → SvType → VExpr → Reading → Type 0
ReadsWord memory t word r = (e from : S.Meaning) (z : Option ℤ) (a : Around) (sc : Scope) (v : Valuation) → from.of ≡ layout t → IsPath e a → IsStep e from a (element_of from.of z)
    → S.wide e ≡ length from.of.element.two_state → count_of from.of.left from.of.right * length from.of.element.two_state ≡ S.wide from
    → IsMemory from a (named sc.names memory) v → IsWord from.of z None (meaning word) sc v → Reads r e a sc v

-- so it is of a known index
abbrev pub ReadsKnownWord : Name → SvType → Option ℤ → Reading → Type 0
ReadsKnownWord memory t z r = (e from : S.Meaning) (a : Around) (sc : Scope) (v : Valuation) → from.of ≡ layout t → IsPath e a → IsStep e from a (element_of from.of z)
    → S.wide e ≡ length from.of.element.two_state → count_of from.of.left from.of.right * length from.of.element.two_state ≡ S.wide from
    → IsMemory from a (named sc.names memory) v → Reads r e a sc v

-- the memory and what the number names are named
abbrev pub NamesRead : Name → VExpr → Reading → Type 0
NamesRead memory word r = (sc : Scope) → SameNumbers ((named sc.names memory).number ∷ (meaning word).names sc) (root_names r.root sc)

-- the memory alone is named
abbrev pub NamesMemory : Name → Reading → Type 0
NamesMemory memory r = (sc : Scope) → SameNumbers ((named sc.names memory).number ∷ []) (root_names r.root sc)
