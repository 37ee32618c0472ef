-- The functions that a part of a text calls by the rules are those that its calls name.
use Rattle.std.proofs.Common.{◌≡◌, ℕ, suc, ◌+◌, Bool, ◌||◌, List, [], ◌∷◌, ◌++◌, map, refl, sym, ap, ◌∙◌, subst}
use Rattle.std.specs.List.{list_any}
use Rattle.std.proofs.lemmas.List.Folds.{list_any-append}
use Rattle.v_tree.specs.Names.{Name}
use Rattle.v_tree.specs.Scopes.{Scope}
use Rattle.v_tree.specs.ExprRules.{Around, Rules, SelRules, Operation, called, calls_in, calls_in_sels, kind_of, binary_rules, expr_rules, prim_rules, sel_rules, rules_of, sel_rules_of}
use Rattle.v_tree.specs.StmtRules.{Target, lval_target, target_of}
use Rattle.v_tree.specs.declared.expressions.VExpr.{VExpr, VExpr-F}
use Rattle.v_tree.specs.declared.expressions.VPrim.{VPrim, VPrim-F, fold-VPrim}
use Rattle.v_tree.specs.declared.expressions.VSel.{VSel}
use Rattle.v_tree.specs.declared.statements.VLval.{VLval, VLval-F}
use Rattle.v_tree.proofs.Induction as T
use Rattle.v_expr_rules.proofs.Levels as L
use Rattle.v_expr_rules.proofs.Listed.{Each}
use Rattle.v_expr_rules.proofs.Listed.Each.{none, more}
use Rattle.v_call_sites.specs.Sites.{Site, Sites, named_at, calls_from, calls_along, sel_sites, prim_sites, expr_sites, sites_of, prim_sites_of, sel_sites_of}
use Rattle.v_call_sites.specs.StmtSites.{lval_sites, target_sites}
use Rattle.v_call_sites.proofs.Expressions.{plain}
use Rattle.v_call_sites.proofs.Levels.{at-name, at-concat}

abbrev pub any_site : (Name → Bool) → List Site → Bool
any_site f ss = list_any (λ (s : Site). f s.name) ss

-- calls name these functions, wherever they stand
abbrev pub Calls : (Scope → ℕ → List Site) → (Around → List Name) → Type 0
Calls sites names = (f : Name → Bool) (a : Scope) (at : ℕ) → any_site f (sites a at) ≡ list_any f (names (plain a))

pub two-lists : (f : Name → Bool) (ss ts : List Site) (ns ms : List Name) → any_site f ss ≡ list_any f ns → any_site f ts ≡ list_any f ms → any_site f (ss ++ ts) ≡ list_any f (ns ++ ms)
two-lists f ss ts ns ms e g = list_any-append (λ (s : Site). f s.name) ss ts ∙ (λ i. e i || g i) ∙ sym (list_any-append f ns ms)

any-named : (f : Name → Bool) (at : ℕ) (ns : List Name) → any_site f (named_at at ns) ≡ list_any f ns
any-named f at [] = refl
any-named f at (n ∷ ns) = ap (λ b. f n || b) (any-named f at ns)

abbrev pub ExprCalls : Sites → Rules → Type 0
ExprCalls s r = Calls s.calls r.calls

abbrev SelCalls : Sites → SelRules → Type 0
SelCalls s r = Calls s.calls r.calls

pub from-calls : (ss : List Sites) (rs : List Rules) → Each ExprCalls ss rs → Calls (calls_from ss) (calls_in rs)
from-calls _ _ none f a at = refl
from-calls _ _ (more {x = s} {y = r} {xs = ss} {ys = rs} h hs) f a at =
    two-lists f (s.calls a at) (calls_from ss a (at + suc s.size)) (r.calls (plain a)) (calls_in rs (plain a)) (h f a at) (from-calls ss rs hs f a (at + suc s.size))

along-calls : (ss : List Sites) (rs : List SelRules) → Each SelCalls ss rs → Calls (calls_along ss) (calls_in_sels rs)
along-calls _ _ none f a at = refl
along-calls _ _ (more {x = s} {y = r} {xs = ss} {ys = rs} h hs) f a at =
    two-lists f (s.calls a at) (calls_along ss a (at + s.size)) (r.calls (plain a)) (calls_in_sels rs (plain a)) (h f a at) (along-calls ss rs hs f a (at + s.size))

binary-calls : (o : Operation) (s t : Sites) (r q : Rules) → ExprCalls s r → ExprCalls t q
    → ExprCalls (record { size = s.size + suc t.size; calls = λ scope at. s.calls scope at ++ t.calls scope (at + suc s.size) }) (binary_rules o r q)
binary-calls o s t r q h k f a at = two-lists f (s.calls a at) (t.calls a (at + suc s.size)) (r.calls (plain a)) (q.calls (plain a)) (h f a at) (k f a (at + suc s.size))

choose-calls : (s t u : Sites) (r q p : Rules) → ExprCalls s r → ExprCalls t q → ExprCalls u p → ExprCalls (expr_sites (VExpr-F.Choose s t u)) (expr_rules (VExpr-F.Choose r q p))
choose-calls s t u r q p h k l f a at =
    let second = at + suc s.size in
    let third = at + (suc s.size + suc t.size) in
    two-lists f (s.calls a at) (t.calls a second ++ u.calls a third) (r.calls (plain a)) (q.calls (plain a) ++ p.calls (plain a)) (h f a at)
    (two-lists f (t.calls a second) (u.calls a third) (q.calls (plain a)) (p.calls (plain a)) (k f a second) (l f a third))

call-calls : (name : Name) (ss : List Sites) (rs : List Rules) → Each ExprCalls ss rs → ExprCalls (prim_sites (VPrim-F.Call name ss)) (prim_rules (VPrim-F.Call name rs))
call-calls name ss rs hs f a at =
    two-lists f (named_at at (called (a name) name)) (calls_from ss a (at + 2)) (called (a name) name) (calls_in rs (plain a)) (any-named f at (called (a name) name)) (from-calls ss rs hs f a (at + 2))

-- induction
abbrev P : VExpr → Type 0
P x = ExprCalls (sites_of x) (rules_of x)

abbrev prim_of : VPrim → Rules
prim_of = fold-VPrim Rules Rules SelRules expr_rules prim_rules sel_rules

abbrev Q : VPrim → Type 0
Q x = ExprCalls (prim_sites_of x) (prim_of x)

abbrev R : VSel → Type 0
R x = SelCalls (sel_sites_of x) (sel_rules_of x)

both : {s t : Sites} {r q : Rules} → s ≡ t → r ≡ q → ExprCalls t q → ExprCalls s r
both {s} {t} {r} {q} e f h = subst (λ (x : Sites). ExprCalls x r) (sym e) (subst (λ (y : Rules). ExprCalls t y) (sym f) h)

sel-both : {s t : Sites} {r q : SelRules} → s ≡ t → r ≡ q → SelCalls t q → SelCalls s r
sel-both {s} {t} {r} {q} e f h = subst (λ (x : Sites). SelCalls x r) (sym e) (subst (λ (y : SelRules). SelCalls t y) (sym f) h)

each-expr : (xs : List VExpr) → T.Each P xs → Each ExprCalls (map sites_of xs) (map rules_of xs)
each-expr [] hs = none
each-expr (x ∷ xs) hs = more hs.0 (each-expr xs hs.1)

each-sel : (xs : List VSel) → T.Each R xs → Each SelCalls (map sel_sites_of xs) (map sel_rules_of xs)
each-sel [] hs = none
each-sel (x ∷ xs) hs = more hs.0 (each-sel xs hs.1)

steps : T.ExprSteps P Q R
steps = record {
  expr-prim = λ x h. both (L.at-prim expr_sites prim_sites sel_sites x) (L.at-prim expr_rules prim_rules sel_rules x) h;
  expr-unary = λ op x h. both (L.at-unary expr_sites prim_sites sel_sites op x) (L.at-unary expr_rules prim_rules sel_rules op x) (λ f a at. h f a (suc at));
  expr-binary = λ op x y h k.
      both (L.at-binary expr_sites prim_sites sel_sites op x y) (L.at-binary expr_rules prim_rules sel_rules op x y)
      (binary-calls (kind_of op) (prim_sites_of x) (prim_sites_of y) (prim_of x) (prim_of y) h k);
  expr-choose = λ on x y g h k.
      both (L.at-choose expr_sites prim_sites sel_sites on x y) (L.at-choose expr_rules prim_rules sel_rules on x y)
      (choose-calls (prim_sites_of on) (prim_sites_of x) (prim_sites_of y) (prim_of on) (prim_of x) (prim_of y) g h k);
  prim-number = λ bits. both (L.at-number expr_sites prim_sites sel_sites bits) (L.at-number expr_rules prim_rules sel_rules bits) (λ f a at. refl);
  prim-paren = λ x h. both (L.at-paren expr_sites prim_sites sel_sites x) (L.at-paren expr_rules prim_rules sel_rules x) (λ f a at. h f a (suc at));
  prim-name = λ n ss hs.
      both (L.at-name expr_sites prim_sites sel_sites n ss) (L.at-name expr_rules prim_rules sel_rules n ss)
      (λ f a at. along-calls (map sel_sites_of ss) (map sel_rules_of ss) (each-sel ss hs) f a (suc at));
  prim-call = λ n xs hs.
      both (L.at-call expr_sites prim_sites sel_sites n xs) (L.at-call expr_rules prim_rules sel_rules n xs)
      (call-calls n (map sites_of xs) (map rules_of xs) (each-expr xs hs));
  prim-repeat = λ count xs hs.
      both (L.at-repeat expr_sites prim_sites sel_sites count xs) (L.at-repeat expr_rules prim_rules sel_rules count xs)
      (λ f a at. from-calls (map sites_of xs) (map rules_of xs) (each-expr xs hs) f a (at + 3));
  prim-concat = λ xs hs.
      both (L.at-concat expr_sites prim_sites sel_sites xs) (L.at-concat expr_rules prim_rules sel_rules xs)
      (λ f a at. from-calls (map sites_of xs) (map rules_of xs) (each-expr xs hs) f a (suc at));
  prim-sign = λ signed x h. both (L.at-sign expr_sites prim_sites sel_sites signed x) (L.at-sign expr_rules prim_rules sel_rules signed x) (λ f a at. h f a (at + 2));
  sel-decimal = λ base extent. sel-both (L.at-decimal expr_sites prim_sites sel_sites base extent) (L.at-decimal expr_rules prim_rules sel_rules base extent) (λ f a at. refl);
  sel-expr = λ x extent h. sel-both (L.at-moving expr_sites prim_sites sel_sites x extent) (L.at-moving expr_rules prim_rules sel_rules x extent) (λ f a at. h f a (suc at));
}

pub expr-calls : (x : VExpr) → ExprCalls (sites_of x) (rules_of x)
expr-calls = T.ind-expr P Q R steps

pub each-calls : (xs : List VExpr) → Each ExprCalls (map sites_of xs) (map rules_of xs)
each-calls [] = none
each-calls (x ∷ xs) = more (expr-calls x) (each-calls xs)

sel-calls : (x : VSel) → SelCalls (sel_sites_of x) (sel_rules_of x)
sel-calls = T.ind-sel P Q R steps

sels-calls : (xs : List VSel) → Each SelCalls (map sel_sites_of xs) (map sel_rules_of xs)
sels-calls [] = none
sels-calls (x ∷ xs) = more (sel-calls x) (sels-calls xs)

-- targets
abbrev TargetCalls : Sites → Target → Type 0
TargetCalls s r = Calls s.calls r.calls

parts-from : (ss : List Sites) (rs : List Target) → Each TargetCalls ss rs → (f : Name → Bool) (a : Scope) (at : ℕ)
    → any_site f (calls_from ss a at) ≡ list_any f ((lval_target (VLval-F.Concat rs)).calls (plain a))
parts-from _ _ none f a at = refl
parts-from _ _ (more {x = s} {y = r} {xs = ss} {ys = rs} h hs) f a at =
    two-lists f (s.calls a at) (calls_from ss a (at + suc s.size)) (r.calls (plain a)) ((lval_target (VLval-F.Concat rs)).calls (plain a)) (h f a at) (parts-from ss rs hs f a (at + suc s.size))

abbrev Z : VLval → Type 0
Z x = TargetCalls (target_sites x) (target_of x)

each-lval : (xs : List VLval) → T.Each Z xs → Each TargetCalls (map target_sites xs) (map target_of xs)
each-lval [] hs = none
each-lval (x ∷ xs) hs = more hs.0 (each-lval xs hs.1)

target-both : {s t : Sites} {r q : Target} → s ≡ t → r ≡ q → TargetCalls t q → TargetCalls s r
target-both {s} {t} {r} {q} e f h = subst (λ (x : Sites). TargetCalls x r) (sym e) (subst (λ (y : Target). TargetCalls t y) (sym f) h)

pub target-calls : (x : VLval) → TargetCalls (target_sites x) (target_of x)
target-calls = T.ind-lval Z (record {
  lval-name = λ n ss.
      target-both (at-name lval_sites n ss) (at-name lval_target n ss) (λ f a at. along-calls (map sel_sites_of ss) (map sel_rules_of ss) (sels-calls ss) f a (suc at));
  lval-concat = λ ls hs.
      target-both (at-concat lval_sites ls) (at-concat lval_target ls) (λ f a at. parts-from (map target_sites ls) (map target_of ls) (each-lval ls hs) f a (suc at));
})
