-- Calls of tasks and void functions.
use Rattle.std.proofs.Common.{◌≡◌, ℕ, ◌==◌, Bool, true, false, ◌&&◌, ◌||◌, List, [], ◌∷◌, length, map, not, Option, Some, None, refl, sym, ap, ◌∙◌, subst}
use Rattle.std.specs.Prelude.{Result, Ok, Err}
use Rattle.std.specs.List.{zip}
use Rattle.std.proofs.lemmas.List.{length-map}
use Rattle.sv_types.specs.declared.expression.Expr.{Expr}
use Rattle.sv_types.specs.declared.statement.Formal.{Formal}
use Rattle.sv_types.specs.declared.statement.Function.{Function}
use Rattle.sv_types.specs.declared.statement.Stmt.{Stmt}
use Rattle.sv_types.specs.declared.statement.Stmt.TheVariants as S
use Rattle.sv_types.specs.declared.types.SvType.{SvType}
use Rattle.expr_type.specs.declared.halt.Halt.{Halt}
use Rattle.expr_type.specs.declared.halt.Halt.TheVariants as H
use Rattle.expr_type.specs.declared.operand.Valued.{Valued}
use Rattle.expr_type.specs.Answers.{Gives}
use Rattle.expr_type.specs.Names.{Context, Source, position, spot}
use Rattle.expr_type.specs.Operands.{passed}
use Rattle.expr_type.specs.Shapes.{is_assignable, is_plain_to_enum}
use Rattle.expr_type.specs.Statements as D
use Rattle.expr_type.specs.Typings.{Checked, all_of, refused, where_whole}
use Rattle.pattern_types.specs.declared.operand.Operand as O
use Rattle.pattern_types.specs.Meaning.{operand_of}
use Rattle.typing_actions.specs.declared.passing.Actual.{Actual}
use Rattle.typing_actions.specs.declared.passing.Actual.TheVariants as A
use Rattle.typing_actions.specs.Calls.{CallsTask, actual_of, pair_expr}
use Rattle.typing_calls.proofs.Zipping.{where-stops}

-- what an actual gives its formal
pub value-given : (k : Context) (src : Source) (f : Formal) (a : Actual) (o : O.Operand) (r : Result Expr Halt) → src ≡ k.source → a ≡ A.Value o → Gives r (passed src f.local.of (operand_of src o)) → Gives r (D.actual_expr k f (actual_of k.source a))
value-given k src f a o r s is g =
    subst (λ (b : Actual). Gives r (D.actual_expr k f (actual_of k.source b))) (sym is) (subst (λ (x : Source). Gives r (passed x f.local.of (operand_of x o))) s g)

pub target-given : (k : Context) (f : Formal) (a : Actual) (v : Valued) (b : Bool) (r : Result Expr Halt) → a ≡ A.Target v → b ≡ D.is_inout f.way → Gives r (D.takes_result k b f.local.of v) → Gives r (D.actual_expr k f (actual_of k.source a))
target-given k f a v b r is e g =
    subst (λ (x : Actual). Gives r (D.actual_expr k f (actual_of k.source x))) (sym is) (subst (λ (c : Bool). Gives r (D.takes_result k c f.local.of v)) e g)

-- what a target takes
module _ (k : Context) (back : Bool) (t : SvType) (v : Valued) where
  abbrev unfit : Bool
  unfit = not (is_assignable v.expr.of t) || (back && not (is_assignable t v.expr.of))

  abbrev other_enum : Bool
  other_enum = D.is_other_enum t v.expr || (back && is_plain_to_enum t v.expr.of)

  abbrev second : Bool → Checked Expr
  second b = refused b (position k.source v.first) 503 (Ok v.expr)

  abbrev first : Bool → Checked Expr
  first b = refused b (position k.source v.first) 501 (second other_enum)

  pub unfit-breaks : (b : Bool) → b ≡ unfit → b ≡ true → Gives {A = Expr} (Err (H.Breaks v.first 501)) (D.takes_result k back t v)
  unfit-breaks b e is = subst (λ (x : Bool). Gives {A = Expr} (Err (H.Breaks v.first 501)) (first x)) (sym is ∙ e) refl

  pub enum-breaks : (b c : Bool) → b ≡ unfit → b ≡ false → c ≡ other_enum → c ≡ true → Gives {A = Expr} (Err (H.Breaks v.first 503)) (D.takes_result k back t v)
  enum-breaks b c e is f it =
      subst (λ (x : Bool). Gives {A = Expr} (Err (H.Breaks v.first 503)) (first x)) (sym is ∙ e)
      (subst (λ (x : Bool). Gives {A = Expr} (Err (H.Breaks v.first 503)) (second x)) (sym it ∙ f) refl)

  pub target-takes : (b c : Bool) → b ≡ unfit → b ≡ false → c ≡ other_enum → c ≡ false → Gives (Ok v.expr) (D.takes_result k back t v)
  target-takes b c e is f it = ap first (sym e ∙ is) ∙ ap second (sym f ∙ it)

pairs-are : (k : Context) (fs : List Formal) (as' : List D.Actual) → map (pair_expr k) (zip fs as') ≡ D.all_actuals k fs as'
pairs-are k [] as' = refl
pairs-are k (f ∷ fs) [] = refl
pairs-are k (f ∷ fs) (a ∷ as') = ap (λ (es : List (Checked Expr)). D.actual_expr k f a ∷ es) (pairs-are k fs as')

abbrev actuals_of : Context → List Actual → List D.Actual
actuals_of k as' = map (actual_of k.source) as'

abbrev made_call : Context → ℕ → ℕ → List Expr → Checked Stmt
made_call k at place es = Ok (S.Call place es (spot k.source at))

abbrev called : Context → ℕ → ℕ → Function → List D.Actual → Bool → Checked Stmt
called k at place f as' b = refused (not b) (position k.source at) 405 (where_whole (all_of (D.all_actuals k f.formals as')) (made_call k at place))

-- the number of actuals
counted : (k : Context) (at place : ℕ) (f : Function) (as' : List Actual) (b : Bool) → (length f.formals == length as') ≡ b
    → D.call_stmt_of k at (record { place = place; of = f }) (actuals_of k as') ≡ called k at place f (actuals_of k as') b
counted k at place f as' b h =
    ap (λ (n : ℕ). called k at place f (actuals_of k as') (length f.formals == n)) (length-map as' (actual_of k.source)) ∙ ap (called k at place f (actuals_of k as')) h

pub count-breaks : (k : Context) (at place : ℕ) (f : Function) (as' : List Actual) → (length f.formals == length as') ≡ false
    → Gives {A = Stmt} (Err (H.Breaks at 405)) (D.call_stmt_of k at (record { place = place; of = f }) (actuals_of k as'))
count-breaks k at place f as' h = subst (λ (c : Checked Stmt). Gives {A = Stmt} (Err (H.Breaks at 405)) c) (sym (counted k at place f as' false h)) refl

pub call-stops : (k : Context) (at place : ℕ) (f : Function) (as' : List Actual) (h : Halt) → (length f.formals == length as') ≡ true
    → Gives {A = List Expr} (Err h) (all_of (map (pair_expr k) (zip f.formals (actuals_of k as')))) → Gives {A = Stmt} (Err h) (D.call_stmt_of k at (record { place = place; of = f }) (actuals_of k as'))
call-stops k at place f as' h same g =
    subst (λ (c : Checked Stmt). Gives {A = Stmt} (Err h) c) (sym (counted k at place f as' true same))
    (where-stops (all_of (D.all_actuals k f.formals (actuals_of k as'))) (made_call k at place) h
    (subst (λ (cs : List (Checked Expr)). Gives {A = List Expr} (Err h) (all_of cs)) (pairs-are k f.formals (actuals_of k as')) g))

pub call-fine : (k : Context) (src : Source) (at place : ℕ) (f : Function) (as' : List Actual) (es : List Expr) (s : Stmt) → src ≡ k.source → (length f.formals == length as') ≡ true
    → all_of (map (pair_expr k) (zip f.formals (actuals_of k as'))) ≡ Ok es → s ≡ S.Call place es (spot src at)
    → D.call_stmt_of k at (record { place = place; of = f }) (actuals_of k as') ≡ Ok s
call-fine k src at place f as' es s x same g is =
    counted k at place f as' true same
    ∙ ap (λ (cs : List (Checked Expr)). where_whole (all_of cs) (made_call k at place)) (sym (pairs-are k f.formals (actuals_of k as')))
    ∙ ap (λ (c : Checked (List Expr)). where_whole c (made_call k at place)) g
    ∙ ap (λ (y : Source). ok (S.Call place es (spot y at))) (sym x) ∙ ap ok (sym is)
  where
    ok : Stmt → Checked Stmt
    ok u = Ok u

-- a call of what is there
pub calls-none : (k : Context) (at place : ℕ) (o : Option Function) (as' : List D.Actual) → o ≡ None → CallsTask k at place o as' (Err H.Quiet)
calls-none k at place o as' e = subst (λ (p : Option Function). CallsTask k at place p as' (Err H.Quiet)) (sym e) refl

pub calls-some : (k : Context) (at place : ℕ) (o : Option Function) (f : Function) (as' : List D.Actual) (r : Result Stmt Halt) → o ≡ Some f → Gives r (D.call_stmt_of k at (record { place = place; of = f }) as') → CallsTask k at place o as' r
calls-some k at place o f as' r e g = subst (λ (p : Option Function). CallsTask k at place p as' r) (sym e) g

pub ruleset calling = (count-breaks, call-stops, call-fine)
