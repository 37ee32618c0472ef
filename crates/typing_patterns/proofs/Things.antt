-- Names as keys.
use Rattle.std.proofs.Common.{◌≡◌, ℕ, ℤ, List, Option, Some, None, refl, sym, ap, ◌∙◌, subst}
use Rattle.std.specs.Prelude.{Result, Ok, Err}
use Rattle.sv_tree.specs.Extents.{qualified_first}
use Rattle.sv_tree.specs.declared.names.QualifiedName.{QualifiedName}
use Rattle.sv_types.specs.declared.expression.Form.TheVariants as F
use Rattle.sv_types.specs.declared.statement.Function.{Function}
use Rattle.sv_types.specs.declared.types.SvType.{SvType}
use Rattle.sv_types.specs.declared.types.Value.{Value}
use Rattle.expr_type.specs.declared.halt.Halt.{Halt}
use Rattle.expr_type.specs.declared.halt.Halt.TheVariants as H
use Rattle.expr_type.specs.declared.operand.Valued.{Valued}
use Rattle.expr_type.specs.Answers.{Gives}
use Rattle.expr_type.specs.Breaks.{At, Quiet}
use Rattle.expr_type.specs.Expressions.{is_key}
use Rattle.expr_type.specs.Names.{Context, Thing, Signal, Local, Constant, TypeName, Interface, Other, Nothing, position, thing}
use Rattle.expr_type.specs.Operators.{by_itself}
use Rattle.expr_type.specs.Patterns.{named_key, other_key}
use Rattle.pattern_types.specs.declared.operand.NameKey.{NameKey}
use Rattle.pattern_types.specs.declared.operand.NameKey.TheVariants as N
use Rattle.pattern_types.specs.Meaning.{key_of_name}
use Rattle.typing_values.specs.Leaves.{leaf_of, named_alone}
use Rattle.typing_patterns.specs.Keyed.{IsConstantThing, NamesConstant, NameStandsFor, key_by}
use Rattle.typing_patterns.proofs.Keying.{constant-key}

pub constant-names : (k : Context) (of : QualifiedName) (t : SvType) (v : Value) → thing k of ≡ Constant t v → NamesConstant k of
constant-names k of t v is = subst IsConstantThing (sym is) tt

-- what stands for nothing that is a constant
by-thing : (k : Context) (of : QualifiedName) (x : Thing) (n : NameKey) → thing k of ≡ x → key_of_name k.source n ≡ named_key k (qualified_first of) x → NameStandsFor k of (Ok n)
by-thing k of x n is h = h ∙ sym (ap (named_key k (qualified_first of)) is)

at-first : (k : Context) (of : QualifiedName) (at rule : ℕ) → at ≡ qualified_first of → key_of_name k.source (N.Breaks at rule) ≡ Err (At (position k.source (qualified_first of)) rule)
at-first k of at rule e = ap (λ n. Err (At (position k.source n) rule)) e

pub signal-stands : (k : Context) (of : QualifiedName) (n at : ℕ) (t : SvType) → thing k of ≡ Signal n t → at ≡ qualified_first of → NameStandsFor k of (Ok (N.Breaks at 406))
signal-stands k of n at t is e = by-thing k of (Signal n t) (N.Breaks at 406) is (at-first k of at 406 e)

pub local-stands : (k : Context) (of : QualifiedName) (n at : ℕ) (t : SvType) → thing k of ≡ Local n t → at ≡ qualified_first of → NameStandsFor k of (Ok (N.Breaks at 406))
local-stands k of n at t is e = by-thing k of (Local n t) (N.Breaks at 406) is (at-first k of at 406 e)

pub type-stands : (k : Context) (of : QualifiedName) (at : ℕ) (t : SvType) → thing k of ≡ TypeName t → at ≡ qualified_first of → NameStandsFor k of (Ok (N.Breaks at 404))
type-stands k of at t is e = by-thing k of (TypeName t) (N.Breaks at 404) is (at-first k of at 404 e)

pub interface-stands : (k : Context) (of : QualifiedName) (n at : ℕ) → thing k of ≡ Interface n → at ≡ qualified_first of → NameStandsFor k of (Ok (N.Breaks at 404))
interface-stands k of n at is e = by-thing k of (Interface n) (N.Breaks at 404) is (at-first k of at 404 e)

pub broken-stands : (k : Context) (of : QualifiedName) (n : ℕ) → thing k of ≡ Other n → k.key_rule n ≡ None → NameStandsFor k of (Ok N.Quiet)
broken-stands k of n is s = by-thing k of (Other n) N.Quiet is (sym (ap (other_key k.source (qualified_first of)) s))

pub other-stands : (k : Context) (of : QualifiedName) (n at rule : ℕ) → thing k of ≡ Other n → k.key_rule n ≡ Some rule → at ≡ qualified_first of → NameStandsFor k of (Ok (N.Breaks at rule))
other-stands k of n at rule is s e = by-thing k of (Other n) (N.Breaks at rule) is (at-first k of at rule e ∙ sym (ap (other_key k.source (qualified_first of)) s))

pub nothing-stands : (k : Context) (of : QualifiedName) → thing k of ≡ Nothing → NameStandsFor k of (Ok N.Nothing)
nothing-stands k of is = by-thing k of Nothing N.Nothing is refl

-- a constant
by-constant : (k : Context) (first : ℕ) (x : Thing) (v : Valued) (fs : List Function) (n : Result (Option ℤ) Halt) (key : NameKey) → IsConstantThing x → Gives (Ok v) (leaf_of k.source first x) → Gives n (is_key k.source v fs)
    → key_by n ≡ Ok key → key_of_name k.source key ≡ named_key k first x
by-constant k first (Signal m t) v fs n key c g i e = absurd c
by-constant k first (Local m t) v fs n key c g i e = absurd c
by-constant k first (Constant t x) v fs n key c g i e =
    let same : by_itself k.source first t (F.Constant x) ≡ v = cc in
    constant-key k.source first t x fs n key (subst (λ (u : Valued). Gives n (is_key k.source u fs)) (sym same) i) e
by-constant k first (TypeName t) v fs n key c g i e = absurd c
by-constant k first (Interface m) v fs n key c g i e = absurd c
by-constant k first (Other m) v fs n key c g i e = absurd c
by-constant k first Nothing v fs n key c g i e = absurd c

memory-by : (n : Result (Option ℤ) Halt) (h : Halt) → key_by n ≡ Err h → h ≡ H.Memory
memory-by (Ok m) h e = absurd (cc)
memory-by (Err H.Memory) h e = cc
memory-by (Err (H.Breaks at rule)) h e = absurd (cc)
memory-by (Err H.Quiet) h e = absurd (cc)

pub constant-stands : (k : Context) (of : QualifiedName) (v : Valued) (fs : List Function) (n : Result (Option ℤ) Halt) (r : Result NameKey Halt) → NamesConstant k of → Gives (Ok v) (named_alone k of)
    → Gives n (is_key k.source v fs) → r ≡ key_by n → NameStandsFor k of r
constant-stands k of v fs n (Ok key) c g i e = by-constant k (qualified_first of) (thing k of) v fs n key c g i (sym e)
constant-stands k of v fs n (Err h) c g i e = memory-by n h (sym e)

-- a name that is a constant breaks nothing by itself
by-name : (k : Context) (first : ℕ) (x : Thing) (h : Halt) → IsConstantThing x → Gives (Err h) (leaf_of k.source first x) → h ≡ H.Memory
by-name k first (Signal m t) h c g = absurd c
by-name k first (Local m t) h c g = absurd c
by-name k first (Constant t x) H.Memory c g = refl
by-name k first (Constant t x) (H.Breaks at rule) c g = absurd (cc)
by-name k first (Constant t x) H.Quiet c g = absurd (cc)
by-name k first (TypeName t) h c g = absurd c
by-name k first (Interface m) h c g = absurd c
by-name k first (Other m) h c g = absurd c
by-name k first Nothing h c g = absurd c

pub name-memory : (k : Context) (of : QualifiedName) (h : Halt) → NamesConstant k of → Gives (Err h) (named_alone k of) → NameStandsFor k of (Err h)
name-memory k of h c g = by-name k (qualified_first of) (thing k of) h c g
