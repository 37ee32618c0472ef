-- A statement that breaks no rule of the grammar does no arithmetic on over 128 bits.
use Rattle.std.proofs.Common.{◌≡◌, ℕ, suc, ◌+◌, ◌≤◌, Bool, true, ◌&&◌, List, [], ◌∷◌, length, map, Some, None, refl, arith, ap, sym, ◌∙◌, subst}
use Rattle.std.specs.Prelude.{nat_le, ⊤}
use Rattle.std.proofs.lemmas.List.{length-map}
use Rattle.v_tree.specs.Names.{Name}
use Rattle.std.specs.List.{list_all}
use Rattle.v_tree.specs.ExprRules.{Around, Rules, SelRules, total, expr_rules, prim_rules, sel_rules, rules_of, sel_rules_of}
use Rattle.v_tree.specs.StmtRules as Q
use Rattle.v_tree.specs.StmtRules.{each_target, lval_target, target_of, Procedure, StmtRules, ItemRules, locals_from, locals_size, blocks_in, stmts_broken, branch_rules, values_at, widest, widest_item, item_rules, bodies, item_values, else_rules, block_rules, stmt_rules, rules_of_stmt, rules_of_branch}
use Rattle.v_tree.specs.declared.expressions.VExpr.{VExpr, VExpr-F}
use Rattle.v_tree.specs.declared.expressions.VExpr.TheVariants as E
use Rattle.v_tree.specs.declared.expressions.VPrim.{VPrim, VPrim-F, fold-VPrim}
use Rattle.v_tree.specs.declared.expressions.VPrim.TheVariants as O
use Rattle.v_tree.specs.declared.expressions.VSel.{VSel, VSel-F}
use Rattle.v_tree.specs.declared.expressions.VSel.TheVariants as S
use Rattle.v_tree.specs.declared.statements.VLval.{VLval, VLval-F, fold-roll-VLval}
use Rattle.v_tree.specs.declared.statements.VLval.TheVariants as W
use Rattle.v_tree.proofs.Induction as I
use Rattle.v_tree.proofs.Induction.{Each, Perhaps}
use Rattle.v_selects.specs.Few.{few_of_expr, few_of_prim, few_of_sel, few_of_lval}
use Rattle.v_selects.proofs.Levels as Few
use Rattle.v_expr_rules.proofs.Levels as L
use Rattle.v_meaning.specs.Scopes as M
use Rattle.v_meaning.specs.Selects.{SelMeaning, Path, start, select, width_from}
use Rattle.v_meaning.specs.Values.{meaning, sel_meaning, expr_step, prim_step, sel_step, width_of}
use Rattle.v_meaning.specs.Statements.{Target, target, name_target, joined_target, parts_width}
use Rattle.v_eval.specs.Limits.{Limits, SelLimits, expr_limits, prim_limits, sel_limits, limits, limits_of_prim, limits_of_sel}
use Rattle.v_eval.specs.Paths.{selecting}
use Rattle.v_run.specs.Limits.{target_most, lval_limits, most_of_parts}
use Rattle.v_run.proofs.Targeted.{is-name, is-concat}
use Rattle.v_exec.specs.Agreeing.{Agrees}
use Rattle.v_exec.proofs.KeptExprs as K
use Rattle.v_exec.proofs.KeptExprs.{Kept, SelKept, SelsKept, AllKept, left-none, right-none, not-if, both-yes}

-- expressions
abbrev pub prim_rules_of : VPrim → Rules
prim_rules_of = fold-VPrim Rules Rules SelRules expr_rules prim_rules sel_rules

pub three-yes : (a b c : Bool) → ((a && b) && c) ≡ true → (a ≡ true) × ((b ≡ true) × (c ≡ true))
three-yes a b c h =
    let all = both-yes (a && b) c h in
    let first = both-yes a b all.0 in
    (first.0, (first.1, all.1))

module _ (around : Around) (sc : M.Scope) (agree : Agrees around sc) where
  as-kept : (r q : Rules) (l m : Limits) → r ≡ q → l ≡ m → Kept around sc q m → Kept around sc r l
  as-kept r q l m e f h = subst (λ x. Kept around sc x l) (sym e) (subst (λ y. Kept around sc q y) (sym f) h)

  as-sel : (r q : SelRules) (l m : SelLimits) → r ≡ q → l ≡ m → SelKept around sc q m → SelKept around sc r l
  as-sel r q l m e f h = subst (λ x. SelKept around sc x l) (sym e) (subst (λ y. SelKept around sc q y) (sym f) h)

  abbrev ExprKept : VExpr → Type 0
  ExprKept x = few_of_expr x ≡ true → Kept around sc (rules_of x) (limits x)

  abbrev PrimKept : VPrim → Type 0
  PrimKept x = few_of_prim x ≡ true → Kept around sc (prim_rules_of x) (limits_of_prim x)

  abbrev BaseKept : VSel → Type 0
  BaseKept x = few_of_sel x ≡ true → SelKept around sc (sel_rules_of x) (limits_of_sel x)

  all-exprs : (xs : List VExpr) → Each ExprKept xs → list_all few_of_expr xs ≡ true → AllKept around sc (map rules_of xs) (map limits xs)
  all-exprs [] h f = tt
  all-exprs (x ∷ xs) h f = let b = both-yes (few_of_expr x) (list_all few_of_expr xs) f in (h.0 b.0, all-exprs xs h.1 b.1)

  all-sels : (xs : List VSel) → Each BaseKept xs → list_all few_of_sel xs ≡ true → SelsKept around sc (map sel_rules_of xs) (map limits_of_sel xs)
  all-sels [] h f = tt
  all-sels (x ∷ xs) h f = let b = both-yes (few_of_sel x) (list_all few_of_sel xs) f in (h.0 b.0, all-sels xs h.1 b.1)

  few-limits : (ss : List VSel) → nat_le (length ss) 2 ≡ true → nat_le (length (map limits_of_sel ss)) 2 ≡ true
  few-limits ss h = ap (λ n. nat_le n 2) (length-map ss limits_of_sel) ∙ h

  expr-steps : I.ExprSteps ExprKept PrimKept BaseKept
  expr-steps = record {
    expr-prim = λ a h f. as-kept (rules_of (E.Prim a)) (prim_rules_of a) (limits (E.Prim a)) (limits_of_prim a) (L.at-prim expr_rules prim_rules sel_rules a) (L.at-prim expr_limits prim_limits sel_limits a)
        (h (sym (Few.at-prim a) ∙ f));
    expr-unary = λ op a h f. as-kept (rules_of (E.Unary op a)) (expr_rules (VExpr-F.Unary op (prim_rules_of a))) (limits (E.Unary op a)) (expr_limits (VExpr-F.Unary op (limits_of_prim a))) (L.at-unary expr_rules prim_rules sel_rules op a)
        (L.at-unary expr_limits prim_limits sel_limits op a)
        (K.unary-kept around sc op (prim_rules_of a) (limits_of_prim a) (h (sym (Few.at-unary op a) ∙ f)));
    expr-binary = λ op a b h g f.
        (
        let both = both-yes (few_of_prim a) (few_of_prim b) (sym (Few.at-binary op a b) ∙ f) in
        as-kept (rules_of (E.Binary op a b)) (expr_rules (VExpr-F.Binary op (prim_rules_of a) (prim_rules_of b))) (limits (E.Binary op a b)) (expr_limits (VExpr-F.Binary op (limits_of_prim a) (limits_of_prim b)))
        (L.at-binary expr_rules prim_rules sel_rules op a b) (L.at-binary expr_limits prim_limits sel_limits op a b)
        (K.binary-kept around sc op (prim_rules_of a) (prim_rules_of b) (limits_of_prim a) (limits_of_prim b) (h both.0) (g both.1))
        );
    expr-choose = λ on a b k h g f.
        (
        let b3 = three-yes (few_of_prim on) (few_of_prim a) (few_of_prim b) (sym (Few.at-choose on a b) ∙ f) in
        as-kept (rules_of (E.Choose on a b)) (expr_rules (VExpr-F.Choose (prim_rules_of on) (prim_rules_of a) (prim_rules_of b))) (limits (E.Choose on a b)) (expr_limits (VExpr-F.Choose (limits_of_prim on) (limits_of_prim a) (limits_of_prim b)))
        (L.at-choose expr_rules prim_rules sel_rules on a b) (L.at-choose expr_limits prim_limits sel_limits on a b)
        (K.choose-kept around sc (prim_rules_of on) (prim_rules_of a) (prim_rules_of b) (limits_of_prim on) (limits_of_prim a) (limits_of_prim b) (k b3.0) (h b3.1.0) (g b3.1.1))
        );
    prim-number = λ bits f. as-kept (prim_rules_of (O.Number bits)) (prim_rules (VPrim-F.Number bits)) (limits_of_prim (O.Number bits)) (prim_limits (VPrim-F.Number bits)) (L.at-number expr_rules prim_rules sel_rules bits)
        (L.at-number expr_limits prim_limits sel_limits bits) (λ w at none. (refl, omega arith));
    prim-paren = λ x h f. as-kept (prim_rules_of (O.Paren x)) (prim_rules (VPrim-F.Paren (rules_of x))) (limits_of_prim (O.Paren x)) (limits x) (L.at-paren expr_rules prim_rules sel_rules x) (L.at-paren expr_limits prim_limits sel_limits x)
        (λ w at none. h (sym (Few.at-paren x) ∙ f) w (suc at) none);
    prim-name = λ n ss h f.
        (
        let b = both-yes (nat_le (length ss) 2) (list_all few_of_sel ss) (sym (Few.at-name n ss) ∙ f) in
        as-kept (prim_rules_of (O.Name n ss)) (prim_rules (VPrim-F.Name n (map sel_rules_of ss))) (limits_of_prim (O.Name n ss)) (prim_limits (VPrim-F.Name n (map limits_of_sel ss))) (L.at-name expr_rules prim_rules sel_rules n ss)
        (L.at-name expr_limits prim_limits sel_limits n ss) (K.name-kept around sc n (map sel_rules_of ss) (map limits_of_sel ss) agree (few-limits ss b.0) (all-sels ss h b.1))
        );
    prim-call = λ n xs h f.
        (
        let b = sym (Few.at-call n xs) ∙ f in
        as-kept (prim_rules_of (O.Call n xs)) (prim_rules (VPrim-F.Call n (map rules_of xs))) (limits_of_prim (O.Call n xs)) (prim_limits (VPrim-F.Call n (map limits xs))) (L.at-call expr_rules prim_rules sel_rules n xs)
        (L.at-call expr_limits prim_limits sel_limits n xs) (K.call-kept around sc n (map rules_of xs) (map limits xs) agree (all-exprs xs h b))
        );
    prim-repeat = λ count xs h f.
        (
        let b = sym (Few.at-repeat count xs) ∙ f in
        as-kept (prim_rules_of (O.Repeat count xs)) (prim_rules (VPrim-F.Repeat count (map rules_of xs))) (limits_of_prim (O.Repeat count xs)) (prim_limits (VPrim-F.Repeat count (map limits xs)))
        (L.at-repeat expr_rules prim_rules sel_rules count xs) (L.at-repeat expr_limits prim_limits sel_limits count xs) (K.repeat-kept around sc count (map rules_of xs) (map limits xs) (all-exprs xs h b))
        );
    prim-concat = λ xs h f.
        (
        let b = sym (Few.at-concat xs) ∙ f in
        as-kept (prim_rules_of (O.Concat xs)) (prim_rules (VPrim-F.Concat (map rules_of xs))) (limits_of_prim (O.Concat xs)) (prim_limits (VPrim-F.Concat (map limits xs))) (L.at-concat expr_rules prim_rules sel_rules xs)
        (L.at-concat expr_limits prim_limits sel_limits xs) (K.concat-kept around sc (map rules_of xs) (map limits xs) (all-exprs xs h b))
        );
    prim-sign = λ signed x h f. as-kept (prim_rules_of (O.Sign signed x)) (prim_rules (VPrim-F.Sign signed (rules_of x))) (limits_of_prim (O.Sign signed x)) (prim_limits (VPrim-F.Sign signed (limits x)))
        (L.at-sign expr_rules prim_rules sel_rules signed x) (L.at-sign expr_limits prim_limits sel_limits signed x)
        (K.sign-kept around sc signed (rules_of x) (limits x) (h (sym (Few.at-sign signed x) ∙ f)));
    sel-decimal = λ base e f. as-sel (sel_rules_of (S.Decimal base e)) (sel_rules (VSel-F.Decimal base e)) (limits_of_sel (S.Decimal base e)) (sel_limits (VSel-F.Decimal base e)) (L.at-decimal expr_rules prim_rules sel_rules base e)
        (L.at-decimal expr_limits prim_limits sel_limits base e) (record { base = refl; extent = refl; narrow = λ at none. omega arith });
    sel-expr = λ x e h f.
        (
        as-sel (sel_rules_of (S.Expr x e)) (sel_rules (VSel-F.Expr (rules_of x) e)) (limits_of_sel (S.Expr x e)) (sel_limits (VSel-F.Expr (limits x) e)) (L.at-moving expr_rules prim_rules sel_rules x e)
        (L.at-moving expr_limits prim_limits sel_limits x e) (K.moving-kept around sc (rules_of x) (limits x) e (h (sym (Few.at-moving x e) ∙ f)))
        );
  }

  pub expr-kept : (x : VExpr) → ExprKept x
  expr-kept = I.ind-expr ExprKept PrimKept BaseKept expr-steps

  pub sel-kept : (x : VSel) → BaseKept x
  sel-kept = I.ind-sel ExprKept PrimKept BaseKept expr-steps

-- targets
abbrev pub Alike : VSel → Type 0
Alike s = ((sel_meaning s).decimal ≡ (limits_of_sel s).decimal) × ((sel_meaning s).extent ≡ (limits_of_sel s).extent)

alike-as : (s : VSel) (m : SelMeaning) (l : SelLimits) → sel_meaning s ≡ m → limits_of_sel s ≡ l → m.decimal ≡ l.decimal → m.extent ≡ l.extent → Alike s
alike-as s m l e f d x = (ap (λ (y : SelMeaning). y.decimal) e ∙ d ∙ sym (ap (λ (y : SelLimits). y.decimal) f), ap (λ (y : SelMeaning). y.extent) e ∙ x ∙ sym (ap (λ (y : SelLimits). y.extent) f))

alike : (s : VSel) → Alike s
alike =
    I.ind-sel (λ x. ⊤) (λ x. ⊤) Alike
    (record {
      expr-prim = λ a h. tt;
      expr-unary = λ op a h. tt;
      expr-binary = λ op a b h g. tt;
      expr-choose = λ on a b k h g. tt;
      prim-number = λ bits. tt;
      prim-paren = λ x h. tt;
      prim-name = λ n ss h. tt;
      prim-call = λ n xs h. tt;
      prim-repeat = λ count xs h. tt;
      prim-concat = λ xs h. tt;
      prim-sign = λ signed x h. tt;
      sel-decimal = λ base e. alike-as (S.Decimal base e) (sel_step (VSel-F.Decimal base e)) (sel_limits (VSel-F.Decimal base e)) (L.at-decimal expr_step prim_step sel_step base e) (L.at-decimal expr_limits prim_limits sel_limits base e) refl refl;
      sel-expr = λ x e h. alike-as (S.Expr x e) (sel_step (VSel-F.Expr (meaning x) e)) (sel_limits (VSel-F.Expr (limits x) e)) (L.at-moving expr_step prim_step sel_step x e) (L.at-moving expr_limits prim_limits sel_limits x e) refl refl;
    })

abbrev pub selectings : List VSel → List SelMeaning
selectings ss = map (λ (l : SelLimits). selecting l.decimal l.extent) (map limits_of_sel ss)

select-alike : (s : SelMeaning) (l : SelLimits) (p : Path) → s.decimal ≡ l.decimal → s.extent ≡ l.extent → select s None p ≡ select (selecting l.decimal l.extent) None p
select-alike s l p d e = ap (λ x. select (record s { decimal = x }) None p) d ∙ ap (λ x. select (record s { decimal = l.decimal; extent = x }) None p) e

width-alike : (ss : List VSel) (p : Path) → width_from (map sel_meaning ss) p ≡ width_from (selectings ss) p
width-alike [] p = refl
width-alike (s ∷ ss) p =
    let a = alike s in
    width-alike ss (select (sel_meaning s) None p) ∙ ap (width_from (selectings ss)) (select-alike (sel_meaning s) (limits_of_sel s) p a.0 a.1)

module _ (around : Around) (sc : M.Scope) (agree : Agrees around sc) where
  abbrev TargetKept : VLval → Type 0
  TargetKept x = few_of_lval x ≡ true → (at : ℕ) → (target_of x).broken around at ≡ [] → ((target x).width sc ≡ (target_of x).width around) × (target_most x sc ≤ 128)

  each-sel : (ss : List VSel) → list_all few_of_sel ss ≡ true → SelsKept around sc (map sel_rules_of ss) (map limits_of_sel ss)
  each-sel [] f = tt
  each-sel (s ∷ ss) f = let b = both-yes (few_of_sel s) (list_all few_of_sel ss) f in (sel-kept around sc agree s b.0, each-sel ss b.1)

  rules-name : (n : Name) (ss : List VSel) → target_of (W.Name n ss) ≡ lval_target (VLval-F.Name n ss)
  rules-name n ss = ap target_of (sym (W.rolls-Name n ss)) ∙ fold-roll-VLval Q.Target lval_target (VLval-F.Name n ss)

  rules-concat : (ls : List VLval) → target_of (W.Concat ls) ≡ lval_target (VLval-F.Concat (map target_of ls))
  rules-concat ls = ap target_of (sym (W.rolls-Concat ls)) ∙ fold-roll-VLval Q.Target lval_target (VLval-F.Concat ls)

  most-name : (n : Name) (ss : List VSel) → target_most (W.Name n ss) ≡ lval_limits (VLval-F.Name n ss)
  most-name n ss = ap target_most (sym (W.rolls-Name n ss)) ∙ fold-roll-VLval (M.Scope → ℕ) lval_limits (VLval-F.Name n ss)

  most-concat : (ls : List VLval) → target_most (W.Concat ls) ≡ lval_limits (VLval-F.Concat (map target_most ls))
  most-concat ls = ap target_most (sym (W.rolls-Concat ls)) ∙ fold-roll-VLval (M.Scope → ℕ) lval_limits (VLval-F.Concat ls)

  name-width : (n : Name) (ss : List VSel) → (name_target n (map sel_meaning ss)).width sc ≡ width_of (M.named sc.names n) (selectings ss)
  unfolding name_target
  name-width n ss = ap (λ p. elim p.words [ None ↦ p.width | Some count ↦ M.all_bits (M.named sc.names n) ]) (width-alike ss (start (M.named sc.names n)))

  concat-width : (ts : List Target) → (joined_target ts).width sc ≡ parts_width ts sc
  unfolding joined_target
  concat-width ts = refl

  parts-kept : (ls : List VLval) (at : ℕ) → Each TargetKept ls → list_all few_of_lval ls ≡ true → each_target (λ t from. t.broken around from) (map target_of ls) at ≡ []
      → (parts_width (map target ls) sc ≡ total (map (λ (t : Q.Target). t.width around) (map target_of ls))) × (most_of_parts (map target_most ls) sc ≤ 128)
  parts-kept [] at h f none = (refl, omega arith)
  parts-kept (l ∷ ls) at h f none =
      let b = both-yes (few_of_lval l) (list_all few_of_lval ls) f in
      let first = (target_of l).broken around at in
      let rest = each_target (λ t from. t.broken around from) (map target_of ls) (at + suc (target_of l).size) in
      let x = h.0 b.0 at (left-none first rest none) in
      let y = parts-kept ls (at + suc (target_of l).size) h.1 b.1 (right-none first rest none) in
      (let u = x.0 in let w = y.0 in omega (arith, u, w), let u = x.1 in let w = y.1 in omega (arith, u, w))

  target-steps : I.LvalSteps TargetKept
  target-steps = record {
    lval-name = λ n ss f at none.
        (
        let b = both-yes (nat_le (length ss) 2) (list_all few_of_sel ss) (sym (Few.at-lvalue n ss) ∙ f) in
        let kept = K.name-kept around sc n (map sel_rules_of ss) (map limits_of_sel ss) agree (few-limits around sc agree ss b.0) (each-sel ss b.1) 0 at (subst (λ (t : Q.Target). t.broken around at ≡ []) (rules-name n ss) none) in (
          ap (λ (t : Target). t.width sc) (is-name (W.Name n ss) n ss refl) ∙ name-width n ss ∙ kept.0 ∙ sym (ap (λ (t : Q.Target). t.width around) (rules-name n ss)),
          subst (λ (m : M.Scope → ℕ). m sc ≤ 128) (sym (most-name n ss)) kept.1,
        )
        );
    lval-concat = λ ls h f at none.
        (
        let kept = parts-kept ls (suc at) h (sym (Few.at-lvalues ls) ∙ f) (subst (λ (t : Q.Target). t.broken around at ≡ []) (rules-concat ls) none) in (
          ap (λ (t : Target). t.width sc) (is-concat (W.Concat ls) ls refl) ∙ concat-width (map target ls) ∙ kept.0 ∙ sym (ap (λ (t : Q.Target). t.width around) (rules-concat ls)),
          subst (λ (m : M.Scope → ℕ). m sc ≤ 128) (sym (most-concat ls)) kept.1,
        )
        );
  }

  pub target-kept : (x : VLval) → TargetKept x
  target-kept = I.ind-lval TargetKept target-steps
