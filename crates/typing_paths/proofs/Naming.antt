-- Names with the selects behind them, by what they stand for.
use Rattle.std.proofs.Common.{◌≡◌, refl, ◌≤◌, ◌∙◌, ◌-◌, ℕ, List, [], ◌∷◌, arith, drop, get_or, length, map, rules, sym, ap, subst, take}
use Rattle.std.proofs.lemmas.List.{take_rest}
use Rattle.std.specs.Prelude.{IfOk, Result, Ok, Err}
use Rattle.sv_tree.specs.Extents.{qualified_first}
use Rattle.sv_tree.specs.declared.expressions.Select.{Select, Select-F, the_lemmas}
use Rattle.sv_tree.specs.declared.expressions.Select.TheVariants as V
use Rattle.sv_tree.specs.declared.names.QualifiedName.{QualifiedName}
use Rattle.sv_types.specs.declared.expression.Form.TheVariants as T
use Rattle.sv_types.specs.declared.frame.SignalId.{SignalId}
use Rattle.sv_types.specs.declared.statement.Function.{Function}
use Rattle.sv_types.specs.declared.types.SvType.{SvType}
use Rattle.sv_types.specs.declared.types.Value.{Value}
use Rattle.sv_types.specs.Layouts.{width_of}
use Rattle.operand_types.specs.Allowed.{IsNarrow}
use Rattle.expr_type.specs.declared.halt.Halt.{Halt}
use Rattle.expr_type.specs.declared.halt.Halt.TheVariants as H
use Rattle.expr_type.specs.declared.operand.Valued.{Valued}
use Rattle.expr_type.specs.Expressions as E
use Rattle.expr_type.specs.Expressions.{select_meaning}
use Rattle.expr_type.specs.Forms as F
use Rattle.expr_type.specs.Forms.{SelectMeaning}
use Rattle.expr_type.specs.Names.{Context, Thing, Signal, Local, Constant, thing, Source}
use Rattle.expr_type.specs.Typings.{rule, Checked}
use Rattle.typing_fits.proofs.Members.{narrow-is-whole, wide-is-quiet}
use Rattle.expr_type.specs.Answers.{Gives}
use Rattle.expr_type.specs.Operators.{by_itself}
use Rattle.typing_steps.specs.Steps.{TypesTo}
use Rattle.typing_paths.specs.TypingValues.{leaf_of}
use Rattle.typing_paths.specs.TypingValuesParts as part
use Rattle.typing_paths.specs.Paths.{member_of, member_path_of, path_of, value_path_of}

pub narrow-of : (r : Result Valued Halt) (t : SvType) → width_of t ≤ 4194304 → IfOk r (λ v. v.expr.of ≡ t) → IfOk r IsNarrow
narrow-of (Ok v) t h e = subst (λ (u : SvType). width_of u ≤ 4194304) (sym e) h
narrow-of (Err x) t h e = e

-- a member of an interface
pub member-whole : (k : Source) (first : ℕ) (s : SignalId) (r : Result Valued Halt) → width_of s.of ≤ 4194304 → Gives r (Ok (by_itself k first s.of (T.Signal s.signal))) → Gives r (F.member_signal k first s)
member-whole k first s r h g = subst (λ (c : Checked Valued). Gives r c) (sym (narrow-is-whole s.of (Ok (by_itself k first s.of (T.Signal s.signal))) h)) g

pub member-wide : (k : Source) (first : ℕ) (s : SignalId) → (width_of s.of ≤ 4194304 → ⊥) → Gives {A = Valued} (Err H.Quiet) (F.member_signal k first s)
member-wide k first s h = subst (λ (c : Checked Valued). Gives {A = Valued} (Err H.Quiet) c) (sym (wide-is-quiet s.of (Ok (by_itself k first s.of (T.Signal s.signal))) h)) refl

-- the first select names a member of an interface
front : (ss : List Select) (s : Select) → 1 ≤ length ss → s ≡ get_or ss 0 s → ss ≡ s ∷ drop 1 ss
front [] s l e = absurd (omega arith)
front (x ∷ ss) s l e = ap (λ (y : Select). y ∷ ss) (sym e)

member-level : (dot name : ℕ) → select_meaning (V.Member dot name) ≡ E.select_step (Select-F.Member dot name)
member-level dot name = search (rules, the_lemmas)

pub by-member : (k : Context) (first interface : ℕ) (ss : List Select) (s : Select) (dot name : ℕ) (r : Result Valued Halt) (fs gs : List Function)
    → 1 ≤ length ss → s ≡ get_or ss 0 s → s ≡ V.Member dot name → TypesTo r (path_of k (rule (member_of k first interface name)) (take (length ss - 1) (drop 1 ss)) fs) gs
    → TypesTo r (member_path_of k first interface ss fs) gs
by-member k first interface ss s dot name r fs gs l e is h =
    subst (λ (ts : List Select). TypesTo r (member_path_of k first interface ts fs) gs) (sym (front ss s l e))
    (subst (λ (m : SelectMeaning). TypesTo r (F.of_interface k first interface (m ∷ map select_meaning (drop 1 ss)) fs) gs) (sym (ap select_meaning is ∙ member-level dot name))
    (subst (λ (ts : List Select). TypesTo r (path_of k (rule (member_of k first interface name)) ts fs) gs) (take_rest ss 1) h))

-- the name of a value
pub by-signal : (k : Context) (of : QualifiedName) (ss : List Select) (n : ℕ) (t : SvType) (r : Result Valued Halt) (fs gs : List Function) → thing k of ≡ Signal n t
    → TypesTo r (value_path_of k of ss fs) gs → TypesTo r (part.named_path k of ss fs) gs
by-signal k of ss n t r fs gs e h =
    let P : Thing → Type 0 = λ x. TypesTo r (path_of k (rule (leaf_of k.source (qualified_first of) x)) ss fs) gs
    → TypesTo r (F.by_thing k (qualified_first of) (map select_meaning ss) x fs) gs in
    subst P (sym e) (λ p. p) h

pub by-local : (k : Context) (of : QualifiedName) (ss : List Select) (n : ℕ) (t : SvType) (r : Result Valued Halt) (fs gs : List Function) → thing k of ≡ Local n t
    → TypesTo r (value_path_of k of ss fs) gs → TypesTo r (part.named_path k of ss fs) gs
by-local k of ss n t r fs gs e h =
    let P : Thing → Type 0 = λ x. TypesTo r (path_of k (rule (leaf_of k.source (qualified_first of) x)) ss fs) gs
    → TypesTo r (F.by_thing k (qualified_first of) (map select_meaning ss) x fs) gs in
    subst P (sym e) (λ p. p) h

pub by-constant : (k : Context) (of : QualifiedName) (ss : List Select) (t : SvType) (v : Value) (r : Result Valued Halt) (fs gs : List Function) → thing k of ≡ Constant t v
    → TypesTo r (value_path_of k of ss fs) gs → TypesTo r (part.named_path k of ss fs) gs
by-constant k of ss t v r fs gs e h =
    let P : Thing → Type 0 = λ x. TypesTo r (path_of k (rule (leaf_of k.source (qualified_first of) x)) ss fs) gs
    → TypesTo r (F.by_thing k (qualified_first of) (map select_meaning ss) x fs) gs in
    subst P (sym e) (λ p. p) h

pub ruleset members = (member-whole, member-wide, narrow-of)
