-- In a target with decimal selects alone no index is computed.
use Rattle.std.proofs.Common.{◌≡◌, ℕ, max, true, false, List, [], ◌∷◌, map, Option, refl, sym, ap, ◌∙◌}
use Rattle.std.specs.List.{list_all}
use Rattle.v_tree.specs.declared.expressions.VExpr.{VExpr}
use Rattle.v_tree.specs.declared.expressions.VExtent.{VExtent}
use Rattle.v_tree.specs.declared.expressions.VSel.{VSel}
use Rattle.v_tree.specs.declared.expressions.VSel.TheVariants as S
use Rattle.v_tree.specs.declared.statements.VLval.{VLval}
use Rattle.v_tree.proofs.Induction.{Each, ind-sel, ind-lval}
use Rattle.v_meaning.specs.Scopes.{Scope}
use Rattle.v_eval.specs.Limits.{limits_of_sel, most_of_sels, expr_limits, prim_limits, sel_limits, SelLimits}
use Rattle.v_expr_rules.proofs.Levels.{at-decimal, at-moving}
use Rattle.v_footprints.proofs.Levels.{at-name, at-concat}
use Rattle.v_run.specs.Limits.{target_most, lval_limits, most_of_parts}
use Rattle.v_exec.proofs.KeptExprs.{both-yes}
use Rattle.v_processes.specs.Stems.{sel_decimal, is_decimal_sel, lval_decimal, is_decimal}

abbrev SelNone : VSel → Type 0
SelNone s = is_decimal_sel s ≡ true → (sc : Scope) → (limits_of_sel s).most sc ≡ 0

abbrev Any : {A : Type 0} → A → Type 0
Any x = Unit {0}

sel-none : (s : VSel) → SelNone s
sel-none = ind-sel Any Any SelNone (record {
  expr-prim = λ a q. tt;
  expr-unary = λ op a q. tt;
  expr-binary = λ op a b q r. tt;
  expr-choose = λ on a b q r s. tt;
  prim-number = λ bits. tt;
  prim-paren = λ x p. tt;
  prim-name = λ n ss rs. tt;
  prim-call = λ n xs ps. tt;
  prim-repeat = λ count xs ps. tt;
  prim-concat = λ xs ps. tt;
  prim-sign = λ signed x p. tt;
  sel-decimal = λ base extent h sc. ap (λ (l : SelLimits). l.most sc) (at-decimal expr_limits prim_limits sel_limits base extent);
  sel-expr = λ x extent p h. absurd (no x extent h);
})
  where
    no : (x : VExpr) (extent : Option VExtent) → is_decimal_sel (S.Expr x extent) ≡ true → ⊥
    no x extent h = let wrong : false ≡ true = sym (at-moving (λ e. false) (λ p. false) sel_decimal x extent) ∙ h in absurd (cc)

sels-none : (ss : List VSel) → list_all is_decimal_sel ss ≡ true → (sc : Scope) → most_of_sels (map limits_of_sel ss) sc ≡ 0
sels-none [] h sc = refl
sels-none (s ∷ ss) h sc =
    let b = both-yes (is_decimal_sel s) (list_all is_decimal_sel ss) h in
    (λ i. max (sel-none s b.0 sc i) (sels-none ss b.1 sc i))

abbrev LvalNone : VLval → Type 0
LvalNone l = is_decimal l ≡ true → (sc : Scope) → target_most l sc ≡ 0

parts-none : (ls : List VLval) → Each LvalNone ls → list_all (λ b. b) (map is_decimal ls) ≡ true → (sc : Scope) → most_of_parts (map target_most ls) sc ≡ 0
parts-none [] each h sc = refl
parts-none (l ∷ ls) each h sc =
    let b = both-yes (is_decimal l) (list_all (λ b. b) (map is_decimal ls)) h in
    (λ i. max (each.0 b.0 sc i) (parts-none ls each.1 b.1 sc i))

pub target-none : (l : VLval) → LvalNone l
target-none = ind-lval LvalNone (record {
  lval-name = λ n ss h sc. ap (λ (m : Scope → ℕ). m sc) (at-name lval_limits n ss) ∙ sels-none ss (sym (at-name lval_decimal n ss) ∙ h) sc;
  lval-concat = λ ls each h sc. ap (λ (m : Scope → ℕ). m sc) (at-concat lval_limits ls) ∙ parts-none ls each (sym (at-concat lval_decimal ls) ∙ h) sc;
})
