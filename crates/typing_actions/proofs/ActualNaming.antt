-- Names that are passed to outputs, by whether they are nets of interfaces.
use Rattle.std.proofs.Common.{◌≡◌, ◌≤◌, ℕ, Bool, true, false, cond, List, [], ◌∷◌, map, length, get_or, arith, refl, rules, sym, ap, ◌∙◌, subst}
use Rattle.std.specs.Prelude.{Result, Err}
use Rattle.sv_tree.specs.Extents.{qualified_first}
use Rattle.sv_tree.specs.declared.expressions.Expr.{Expr}
use Rattle.sv_tree.specs.declared.expressions.Select.{Select, Select-F, the_lemmas}
use Rattle.sv_tree.specs.declared.expressions.Select.TheVariants as V
use Rattle.sv_tree.specs.declared.operators.PartOperator.{PartOperator}
use Rattle.sv_tree.specs.declared.names.QualifiedName.{QualifiedName}
use Rattle.sv_types.specs.declared.statement.Function.{Function}
use Rattle.expr_type.specs.declared.halt.Halt.{Halt}
use Rattle.expr_type.specs.declared.halt.Halt.TheVariants as H
use Rattle.expr_type.specs.declared.operand.Valued.{Valued}
use Rattle.expr_type.specs.Breaks.{At}
use Rattle.expr_type.specs.Expressions as E
use Rattle.expr_type.specs.Expressions.{meaning, select_meaning}
use Rattle.expr_type.specs.Forms.{SelectMeaning}
use Rattle.expr_type.specs.Names.{Context, position, thing, word}
use Rattle.expr_type.specs.TargetNames.{actual_target, is_net_of, is_net_thing, named_target}
use Rattle.expr_type.specs.Typings.{Typing, broken}
use Rattle.pattern_types.specs.declared.operand.Operand as O
use Rattle.typing_parts.specs.declared.known.Known.{Known}
use Rattle.typing_parts.specs.Typists.{AllCanType, CanType}
use Rattle.typing_steps.specs.Steps.{TypesTo}
use Rattle.typing_walks.specs.Written.{is_written}
use Rattle.typing_operators.specs.Children.{AllWritten}

-- a net
net-by : (k : Context) (at : ℕ) (b : Bool) (x : Typing Valued) (fs : List Function) → b ≡ true → TypesTo {A = Valued} (Err (H.Breaks at 501)) (cond b (broken (At (position k.source at) 501)) x fs) fs
net-by k at true x fs e = refl
net-by k at false x fs e = absurd (cc)

pub net-breaks : (k : Context) (of : QualifiedName) (ss : List SelectMeaning) (fs : List Function) (b : Bool) (at : ℕ) → b ≡ is_net_thing k ss (thing k of) → b ≡ true → at ≡ qualified_first of
    → TypesTo {A = Valued} (Err (H.Breaks at 501)) (actual_target k of ss fs) fs
net-breaks k of ss fs b at is e first =
    subst (λ (n : ℕ). TypesTo {A = Valued} (Err (H.Breaks n 501)) (actual_target k of ss fs) fs) (sym first)
    (net-by k (qualified_first of) (is_net_thing k ss (thing k of)) (named_target k true of ss) fs (sym is ∙ e))

-- none
none-by : (b : Bool) (y x : Typing Valued) (fs gs : List Function) (r : Result Valued Halt) → b ≡ false → TypesTo r (x fs) gs → TypesTo r (cond b y x fs) gs
none-by true y x fs gs r e h = absurd (cc)
none-by false y x fs gs r e h = h

pub no-net : (k : Context) (of : QualifiedName) (ss : List SelectMeaning) (fs gs : List Function) (b : Bool) (r : Result Valued Halt) → b ≡ is_net_thing k ss (thing k of) → b ≡ false
    → TypesTo r (named_target k true of ss fs) gs → TypesTo r (actual_target k of ss fs) gs
no-net k of ss fs gs b r is e h =
    none-by (is_net_thing k ss (thing k of)) (broken (At (position k.source (qualified_first of)) 501)) (named_target k true of ss) fs gs r (sym is ∙ e) h

pub ruleset names = (net-breaks, no-net)

-- the first select of an interface's instance or port
member-level : (dot name : ℕ) → select_meaning (V.Member dot name) ≡ E.select_step (Select-F.Member dot name)
member-level dot name = search (rules, the_lemmas)

index-level : (opening : ℕ) (index : Expr) (closing : ℕ) → select_meaning (V.Index opening index closing) ≡ E.select_step (Select-F.Index opening (meaning index) closing)
index-level opening index closing = search (rules, the_lemmas)

part-level : (opening : ℕ) (left : Expr) (operator : PartOperator) (at : ℕ) (right : Expr) (closing : ℕ) → select_meaning (V.Part opening left operator at right closing) ≡ E.select_step (Select-F.Part opening (meaning left) operator at (meaning right) closing)
part-level opening left operator at right closing = search (rules, the_lemmas)

abbrev net_by : Context → ℕ → SelectMeaning → Bool
net_by k n m = is_net_of k n (m ∷ [])

first-by : (k : Context) (n : ℕ) (ss : List Select) (s : Select) → 1 ≤ length ss → s ≡ get_or ss 0 s → is_net_of k n (map select_meaning ss) ≡ net_by k n (select_meaning s)
first-by k n [] s l e = absurd (omega arith)
first-by k n (x ∷ ss) s l e = ap (λ (y : Select). net_by k n (select_meaning y)) (sym e)

pub of-member : (k : Context) (n : ℕ) (ss : List Select) (s : Select) (dot name : ℕ) → 1 ≤ length ss → s ≡ get_or ss 0 s → s ≡ V.Member dot name → k.is_net_member n (word k.source name) ≡ is_net_of k n (map select_meaning ss)
of-member k n ss s dot name l e is = sym (first-by k n ss s l e ∙ ap (λ (y : Select). net_by k n (select_meaning y)) is ∙ ap (net_by k n) (member-level dot name))

pub of-index : (k : Context) (n : ℕ) (ss : List Select) (s : Select) (opening : ℕ) (index : Expr) (closing : ℕ) → 1 ≤ length ss → s ≡ get_or ss 0 s → s ≡ V.Index opening index closing → false ≡ is_net_of k n (map select_meaning ss)
of-index k n ss s opening index closing l e is = sym (first-by k n ss s l e ∙ ap (λ (y : Select). net_by k n (select_meaning y)) is ∙ ap (net_by k n) (index-level opening index closing))

pub of-part : (k : Context) (n : ℕ) (ss : List Select) (s : Select) (opening : ℕ) (left : Expr) (operator : PartOperator) (at : ℕ) (right : Expr) (closing : ℕ) → 1 ≤ length ss → s ≡ get_or ss 0 s → s ≡ V.Part opening left operator at right closing
    → false ≡ is_net_of k n (map select_meaning ss)
of-part k n ss s opening left operator at right closing l e is = sym (first-by k n ss s l e ∙ ap (λ (y : Select). net_by k n (select_meaning y)) is ∙ ap (net_by k n) (part-level opening left operator at right closing))

-- where each that is written can be typed, all that are written can
module _ (R S : Type 0) (tree : R → Expr) (held : S → Known) (pre : R → S → Type 0) (post : R → S → Result O.Operand Halt → S → Type 0) (k : Context) where
  pub each-can : (es : List Expr) → ((e : Expr) → is_written e ≡ true → CanType R S tree held pre post k e) → AllWritten es → AllCanType R S tree held pre post k es
  each-can [] c w = tt
  each-can (e ∷ es) c w = (c e w.0, each-can es c w.1)
