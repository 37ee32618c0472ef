-- Elements of signals that stand in the words of memories (IEEE 1364-2005 clause 4.9).
use Rattle.std.specs.Prelude.{◌≡◌, ℕ, ◌*◌, true, false, ◌∷◌, length, Option, Some, None}
use Rattle.row_machine.specs.Valuation.{Valuation}
use Rattle.sv_types.specs.declared.expression.Expr.{Expr}
use Rattle.sv_types.specs.declared.expression.Form.TheVariants as V
use Rattle.sv_types.specs.declared.types.SvType.{SvType}
use Rattle.sv_types.specs.Layouts.{layout, count_of}
use Rattle.sv_types.specs.Windows.{element_of}
use Rattle.sv_types.specs.Surroundings.{Around}
use Rattle.sv_types.specs.Meanings as S
use Rattle.sv_types.specs.Paths as P
use Rattle.v_tree.specs.Names.{Name}
use Rattle.v_tree.specs.declared.names.NameMap.{NameMap}
use Rattle.v_meaning.specs.Scopes.{Scope, named}
use Rattle.v_meaning.specs.Values.{meaning}
use Rattle.lowering_laws.specs.Steps.{IsPath}
use Rattle.lowering_laws.specs.Words.{IsMemory}
use Rattle.path_flatten.specs.declared.offsets.Index.{Index}
use Rattle.path_flatten.specs.declared.readings.Reading.{Reading}
use Rattle.path_flatten.specs.Naming.{SameNumbers, root_names}
use Rattle.path_flatten.specs.Reading.{Reads}
use Rattle.path_flatten.specs.Sliding.{IsIndexOf}
use Rattle.path_flatten.specs.Stepping.{IsStep}
use Rattle.name_maps.specs.Named.{is_memory, OneSignal}

-- an expression is a whole signal with this number that is a memory in the text, or it is no such signal, if the map says one thing
-- of the signal
abbrev pub StandsInWords : NameMap → Expr → Option ℕ → Type 0
StandsInWords names e (Some n) = (e.form ≡ V.Signal n) × (OneSignal names.signals n → is_memory names.signals n ≡ true)
StandsInWords names e None = (n : ℕ) → e.form ≡ V.Signal n → OneSignal names.signals n → is_memory names.signals n ≡ false

-- the reading of an element by a lowered index, of what has a type and stands in a memory
abbrev pub ReadsWordBy : Name → SvType → Index → Reading → Type 0
ReadsWordBy memory t x r = (e from i : S.Meaning) (a : Around) (sc : Scope) (v : Valuation) → from.of ≡ layout t → IsPath e a → IsStep e from a (element_of from.of (P.index_of i a))
    → S.wide e ≡ length from.of.element.two_state → count_of from.of.left from.of.right * length from.of.element.two_state ≡ S.wide from
    → IsMemory from a (named sc.names memory) v → IsIndexOf x i a sc v → Reads r e a sc v

-- it names the memory and what the index does
abbrev pub NamesWordBy : Name → Index → Reading → Type 0
NamesWordBy memory x r = (sc : Scope) → SameNumbers ((named sc.names memory).number ∷ (meaning x.expr).names sc) (root_names r.root sc)
