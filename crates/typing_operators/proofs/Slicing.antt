-- Slices by names.
use Rattle.std.proofs.Common.{◌≡◌, ℕ, List, [], Some, None, refl, sym, ap, ◌∙◌, subst}
use Rattle.std.specs.Prelude.{Result, Ok, Err, pos, unsigned_abs}
use Rattle.sv_tree.specs.Extents.{qualified_first}
use Rattle.sv_tree.specs.declared.names.QualifiedName.{QualifiedName}
use Rattle.sv_types.specs.Layouts.{width_of}
use Rattle.sv_types.specs.declared.statement.Function.{Function}
use Rattle.expr_type.specs.declared.halt.Halt.{Halt}
use Rattle.expr_type.specs.declared.operand.Number.{Number}
use Rattle.expr_type.specs.declared.operand.Valued.{Valued}
use Rattle.expr_type.specs.Answers.{Gives}
use Rattle.expr_type.specs.Forms.{by_thing, named, plain, slice_by_name, slice_of, slice_within, type_of_thing}
use Rattle.expr_type.specs.Names.{Context, Source, Thing, Signal, Local, Constant, TypeName, Interface, Other, Nothing, thing}
use Rattle.expr_type.specs.Operands.{is_number_in}
use Rattle.expr_type.specs.Shapes.{most_bits}
use Rattle.expr_type.specs.Typings.{Checked, Typed, Typing, applied, rule, whole, where_whole}
use Rattle.typing_steps.specs.Steps.{TypesTo}
use Rattle.typing_steps.proofs.Combining.{rule-types}
use Rattle.typing_parts.specs.declared.names.Thing as C
use Rattle.typing_parts.specs.Things.{StandsFor}
use Rattle.typing_values.specs.Leaves.{as_thing, leaf_of}
use Rattle.typing_values.proofs.Names.{stands-is}
use Rattle.typing_operators.specs.Slices.{slice_in, slice_of_constant, slice_of_thing}

-- a name by itself
thing-alone : (k : Context) (first : ℕ) (x : Thing) → by_thing k first [] x ≡ rule (leaf_of k.source first x)
thing-alone k first (Signal n t) = refl
thing-alone k first (Local n t) = refl
thing-alone k first (Constant t v) = refl
thing-alone k first (TypeName t) = refl
thing-alone k first (Interface n) = refl
thing-alone k first (Other n) = refl
thing-alone k first Nothing = refl

number-of : (c : Checked Number) (fs : List Function) → applied c (λ n. whole (unsigned_abs n.number)) fs ≡ record { result = where_whole c (λ n. Ok (unsigned_abs n.number)); functions = fs }
number-of (Ok n) fs = refl
number-of (Err b) fs = refl

value-within : (k : Source) (c : Checked Valued) (fs : List Function) → slice_within k (plain (rule c)) fs ≡ record { result = where_whole c (slice_in k fs); functions = fs }
value-within k (Ok v) fs = number-of (is_number_in k (pos 1) (pos most_bits) v fs) fs
value-within k (Err b) fs = refl

constant-within : (k : Context) (of : QualifiedName) (fs : List Function) → slice_within k.source (plain (named k of [])) fs ≡ record { result = slice_of_constant k of fs; functions = fs }
constant-within k of fs =
    ap (λ (x : Typing Valued). slice_within k.source (plain x) fs) (thing-alone k (qualified_first of) (thing k of))
    ∙ value-within k.source (leaf_of k.source (qualified_first of) (thing k of)) fs

abbrev slice_at : Context → QualifiedName → Thing → Typing ℕ
slice_at k of x = elim (type_of_thing x) [
  | Some t ↦ rule (slice_of k.source (qualified_first of) (width_of t))
  | None ↦ slice_within k.source (plain (named k of []))
]

slice-is : (k : Context) (of : QualifiedName) (fs : List Function) (x : Thing) → slice_at k of x fs ≡ record { result = slice_of_thing k of fs x; functions = fs }
slice-is k of fs (Signal n t) = constant-within k of fs
slice-is k of fs (Local n t) = constant-within k of fs
slice-is k of fs (Constant t v) = constant-within k of fs
slice-is k of fs (TypeName t) = refl
slice-is k of fs (Interface n) = constant-within k of fs
slice-is k of fs (Other n) = constant-within k of fs
slice-is k of fs Nothing = constant-within k of fs

pub slice-by-name : (k : Context) (of : QualifiedName) (fs : List Function) (t : C.Thing) (r : Result ℕ Halt)
    → StandsFor t (thing k of) → Gives r (slice_of_thing k of fs (as_thing t)) → TypesTo r (slice_by_name k of fs) fs
slice-by-name k of fs t r h g =
    let is = stands-is t (thing k of) h in
    let made : Gives r (slice_of_thing k of fs (thing k of)) = subst (λ (x : Thing). Gives r (slice_of_thing k of fs x)) (sym is) g in
    subst (λ (d : Typed ℕ). TypesTo r d fs) (sym (slice-is k of fs (thing k of))) (rule-types r (slice_of_thing k of fs (thing k of)) fs made)
