-- What is kept of a `case` and of statements of all forms tells what the rules tell.
use Rattle.std.proofs.Common.{◌≡◌, ℕ, zero, suc, ◌+◌, Bool, true, false, not, List, [], ◌∷◌, ◌++◌, map, length, Option, Some, None, refl, sym, ap, ◌∙◌, subst, max, append_assoc, arith}
use Rattle.std.proofs.lemmas.List.{append-nil}
use Rattle.v_tree.specs.Names.{Name}
use Rattle.v_tree.specs.Scopes.{Declared, repeated}
use Rattle.v_tree.specs.ExprRules.{Around, Rules, only_if, listed_size, rules_of, calls_in}
use Rattle.v_tree.specs.StmtRules as R
use Rattle.v_tree.specs.StmtRules.{StmtRules, ItemRules, stmts_size, blocks_in, stmts_broken, widest, widest_item, values_at, item_values, bodies, block_rules, branch_rules, item_rules, stmt_rules, rules_of_stmt, rules_of_branch}
use Rattle.v_tree.specs.declared.expressions.VExpr.{VExpr}
use Rattle.v_tree.specs.declared.items.VItem.{VItem}
use Rattle.v_tree.specs.declared.statements.VBranch.{VBranch, VBranch-F, fold-VBranch, fold-roll-VBranch}
use Rattle.v_tree.specs.declared.statements.VBranch.TheVariants as G
use Rattle.v_tree.specs.declared.statements.VCaseItem.{VCaseItem, VCaseItem-F, fold-VCaseItem, fold-roll-VCaseItem}
use Rattle.v_tree.specs.declared.statements.VCaseItem.TheVariants as C
use Rattle.v_tree.specs.declared.statements.VCaseKind.{VCaseKind}
use Rattle.v_tree.specs.declared.statements.VLabel.{VLabel}
use Rattle.v_tree.specs.declared.statements.VLval.{VLval}
use Rattle.v_tree.specs.declared.statements.VStmt.{VStmt, VStmt-F, fold-VStmt, fold-roll-VStmt}
use Rattle.v_tree.specs.declared.statements.VStmt.TheVariants as T
use Rattle.v_tree.proofs.Induction as I
use Rattle.v_scopes.specs.Env.{Env}
use Rattle.v_expr_rules.specs.declared.seen.Seen.{Seen}
use Rattle.v_expr_rules.specs.Seen.{plus, bits_capped, earlier, is_wide, in_context}
use Rattle.v_expr_rules.specs.Least.{cap, first}
use Rattle.v_expr_rules.specs.Walks.{Walk, expr_seen}
use Rattle.v_expr_rules.specs.Things.{around}
use Rattle.v_expr_rules.specs.Exact.{Fits}
use Rattle.v_expr_rules.proofs.Saturation.{plus-cap, max-capped, is_wide-capped, earlier-none, none-earlier, earlier-assoc, first-append}
use Rattle.v_expr_rules.proofs.Operands.{sum-of, one-more}
use Rattle.v_expr_rules.proofs.Listed.{Each}
use Rattle.v_expr_rules.proofs.Listed.Each.{none, more}
use Rattle.v_stmt_rules.specs.declared.cases.CaseSeen.{CaseSeen}
use Rattle.v_stmt_rules.specs.declared.cases.ValuesSeen.{ValuesSeen}
use Rattle.v_stmt_rules.specs.declared.statements.StmtSeen.{StmtSeen}
use Rattle.v_stmt_rules.specs.declared.targets.Procedure.{Procedure}
use Rattle.v_stmt_rules.specs.Labels.{Adds, in_turn}
use Rattle.v_stmt_rules.specs.Targets.{procedure_of}
use Rattle.v_stmt_rules.specs.Stmts.{CaseTold, no_values, values_from, case_item, default_item, no_cases, case_added, case_values, case_seen, StmtTold, ItemTold, item_labels, cases_from, case_walk, item_walk, default_walk, branch_step, item_step, block_step, stmt_step, branch_told, item_told, stmt_told}
use Rattle.v_stmt_rules.proofs.Declared.{weave, Meets, afters, afters-append, first-repeated-append, AllParts, parts-append, names_of, names-append}
use Rattle.v_stmt_rules.proofs.StmtsExact.{StmtFits, StmtExact, ElseExact, ValuesFit, values-fit, swap, expr-at, stmt-at, plain-exact, named-exact, if-exact, assign-exact}

-- what is told of items of a `case`: their tokens, their greatest width, the tokens of their values that break a rule, the first
-- of their bodies, and the names met behind them
pub record CaseFits (t : CaseTold) (size width : ℕ) (values : ℕ → List ℕ) (bodies : Option ℕ) (ds : List Declared) : Type 0 where
  pub size_is : t.seen.size ≡ cap size
  pub width_is : t.seen.width ≡ bits_capped width
  pub values_are : (w : ℕ) → case_values t.seen (is_wide w) ≡ first (values w)
  pub bodies_are : t.seen.first ≡ bodies
  pub met : Meets t.met ds

abbrev body_first : StmtRules → R.Procedure → Around → ℕ → List Declared → Option ℕ
body_first r p a at ds = earlier (first (repeated ds (r.blocks at))) (first (r.broken p a at))

pub record ItemExact (t : ItemTold) (r : ItemRules) : Type 0 where
  pub labels : (to : List Name) (at : ℕ) → t.labels to ≡ to ++ names_of (r.stmt.blocks at)
  pub parts : (at : ℕ) → AllParts (r.stmt.blocks at)
  pub walk : (p : Procedure) (env : Env) (items : List VItem) (at : ℕ) (met : Env) (ds : List Declared) → Meets met ds
      → CaseFits (t.walk p env items (cap at) met) r.stmt.size (widest r.values (around env items)) (λ w. values_at w r.values (around env items) at)
      (body_first r.stmt (procedure_of p) (around env items) at ds) (afters (r.stmt.blocks at) ds)

no-bits : 0 ≡ bits_capped 0
unfolding bits_capped
no-bits = refl

chosen : (v : ValuesSeen) (b : StmtSeen) (rs : List Rules) (a : Around) (at : ℕ) → ValuesFit v rs a at → (w : ℕ) (c : Bool) → is_wide w ≡ c → case_values (case_item v b) c ≡ first (values_at w rs a at)
chosen v b rs a at k w true e = k.wide w e
chosen v b rs a at k w false e = k.narrow w e

no-values : (b : StmtSeen) (c : Bool) → case_values (default_item b) c ≡ None
no-values b true = refl
no-values b false = refl

values-item : (xs : List VExpr) (t : StmtTold) (r : StmtRules) → StmtExact t r → ItemExact (item_step (VCaseItem-F.Item xs t)) (item_rules (VCaseItem-F.Item xs r))
values-item xs t r e = record {
  labels = λ to at. e.labels to (at + suc (listed_size (map rules_of xs)));
  parts = λ at. e.parts (at + suc (listed_size (map rules_of xs)));
  walk = λ p env items at met ds h. (
      let k = values-fit xs env items at in
      let v = values_from (map expr_seen xs) env items (cap at) 0 no_values in
      let from = plus (cap at) (plus 1 v.size) in
      let from_is : from ≡ cap (at + suc (listed_size (map rules_of xs))) = sum-of (cap at) (plus 1 v.size) at (suc (listed_size (map rules_of xs))) refl (one-more v.size (listed_size (map rules_of xs)) k.size) in
      let f = stmt-at t r e p env items from (at + suc (listed_size (map rules_of xs))) met ds from_is h in
      let one = t.walk p env items from met in
      record {
        size_is = sum-of v.size (plus 1 one.seen.size) (listed_size (map rules_of xs)) (suc r.size) k.size (one-more one.seen.size r.size f.size);
        width_is = k.width;
        values_are = λ w. chosen v one.seen (map rules_of xs) (around env items) at k w (is_wide w) refl;
        bodies_are = f.broken;
        met = f.met;
      });
}

default-item : (t : StmtTold) (r : StmtRules) → StmtExact t r → ItemExact (item_step (VCaseItem-F.Default t)) (item_rules (VCaseItem-F.Default r))
default-item t r e = record {
  labels = λ to at. e.labels to (at + 2);
  parts = λ at. e.parts (at + 2);
  walk = λ p env items at met ds h. (
      let f = stmt-at t r e p env items (plus (cap at) 2) (at + 2) met ds (plus-cap at 2) h in
      let one = t.walk p env items (plus (cap at) 2) met in
      record {
        size_is = sum-of 2 one.seen.size 2 r.size refl f.size;
        width_is = no-bits;
        values_are = λ w. no-values one.seen (is_wide w);
        bodies_are = f.broken;
        met = f.met;
      });
}

-- items one behind the other
labels-of : (ts : List ItemTold) (rs : List ItemRules) (to : List Name) (at : ℕ) → Each ItemExact ts rs → in_turn (item_labels ts) to ≡ to ++ names_of (blocks_in (bodies rs) at)
labels-of _ _ to at none = sym (append-nil to)
labels-of _ _ to at (more {x = t} {y = r} {xs = ts} {ys = rs} e es) =
    ap (in_turn (item_labels ts)) (e.labels to at)
    ∙ labels-of ts rs (to ++ names_of (r.stmt.blocks at)) (at + r.stmt.size) es
    ∙ append_assoc to (names_of (r.stmt.blocks at)) (names_of (blocks_in (bodies rs) (at + r.stmt.size)))
    ∙ ap (λ (ns : List Name). to ++ ns) (sym (names-append (r.stmt.blocks at) (blocks_in (bodies rs) (at + r.stmt.size))))

parts-of : (ts : List ItemTold) (rs : List ItemRules) (at : ℕ) → Each ItemExact ts rs → AllParts (blocks_in (bodies rs) at)
parts-of _ _ at none = tt
parts-of _ _ at (more {x = t} {y = r} {xs = ts} {ys = rs} e es) =
    parts-append (r.stmt.blocks at) (blocks_in (bodies rs) (at + r.stmt.size)) (e.parts at) (parts-of ts rs (at + r.stmt.size) es)

added-values : (l s : CaseSeen) (c : Bool) → case_values (case_added l s) c ≡ earlier (case_values l c) (case_values s c)
added-values l s true = refl
added-values l s false = refl

max-zero : (n : ℕ) → n ≡ max n 0
max-zero n = omega arith

max-assoc : (m n k : ℕ) → max (max m n) k ≡ max m (max n k)
max-assoc m n k = omega arith

from-cases : (ts : List ItemTold) (rs : List ItemRules) (p : Procedure) (env : Env) (items : List VItem) (at k width : ℕ) (values : ℕ → List ℕ) (start : Option ℕ) (t : CaseTold) (ds : List Declared) → Each ItemExact ts rs
    → CaseFits t k width values start ds
    → CaseFits (cases_from ts p env items (cap at) t) (k + stmts_size (bodies rs)) (max width (widest_item rs (around env items))) (λ w. values w ++ item_values w rs (around env items) (at + k))
    (earlier start (earlier (first (repeated ds (blocks_in (bodies rs) (at + k)))) (first (stmts_broken (bodies rs) (procedure_of p) (around env items) (at + k))))) (afters (blocks_in (bodies rs) (at + k)) ds)
from-cases _ _ p env items at k width values start t ds none f = record {
  size_is = f.size_is ∙ ap cap (omega arith);
  width_is = f.width_is ∙ ap bits_capped (max-zero width);
  values_are = λ w. f.values_are w ∙ ap first (sym (append-nil (values w)));
  bodies_are = f.bodies_are ∙ sym (ap (earlier start) (earlier-none None) ∙ earlier-none start);
  met = f.met;
}
from-cases _ _ p env items at k width values start t ds (more {x = s} {y = r} {xs = ts} {ys = rs} e es) f =
    let a = around env items in
    let q = procedure_of p in
    let here = plus (cap at) t.seen.size in
    let from : here ≡ cap (at + k) = sum-of (cap at) t.seen.size at k refl f.size_is in
    let g = subst (λ n. CaseFits (s.walk p env items n t.met) r.stmt.size (widest r.values a) (λ w. values_at w r.values a (at + k)) (body_first r.stmt q a (at + k) ds) (afters (r.stmt.blocks (at + k)) ds)) (sym from)
    (e.walk p env items (at + k) t.met ds f.met) in
    let one = s.walk p env items here t.met in
    let next : CaseTold = record { seen = case_added t.seen one.seen; met = one.met } in
    let b = first (repeated ds (r.stmt.blocks (at + k))) in
    let c = first (r.stmt.broken q a (at + k)) in
    let so_far : CaseFits next (k + r.stmt.size) (max width (widest r.values a)) (λ w. values w ++ values_at w r.values a (at + k)) (earlier start (earlier b c)) (afters (r.stmt.blocks (at + k)) ds) = record {
      size_is = sum-of t.seen.size one.seen.size k r.stmt.size f.size_is g.size_is;
      width_is = (λ i. max (f.width_is i) (g.width_is i)) ∙ max-capped width (widest r.values a);
      values_are = λ w.
          added-values t.seen one.seen (is_wide w)
          ∙ (λ i. earlier (f.values_are w i) (g.values_are w i))
          ∙ sym (first-append (values w) (values_at w r.values a (at + k)));
      bodies_are = (λ i. earlier (f.bodies_are i) (g.bodies_are i));
      met = g.met;
    } in
    let rest = from-cases ts rs p env items at (k + r.stmt.size) (max width (widest r.values a)) (λ w. values w ++ values_at w r.values a (at + k)) (earlier start (earlier b c)) next (afters (r.stmt.blocks (at + k)) ds) es so_far in
    let place : at + (k + r.stmt.size) ≡ (at + k) + r.stmt.size = omega arith in
    let moved = subst (λ n. CaseFits (cases_from ts p env items (cap at) next) ((k + r.stmt.size) + stmts_size (bodies rs)) (max (max width (widest r.values a)) (widest_item rs a)) (λ w. (values w ++ values_at w r.values a (at + k)) ++ item_values w rs a n)
    (earlier (earlier start (earlier b c)) (earlier (first (repeated (afters (r.stmt.blocks (at + k)) ds) (blocks_in (bodies rs) n))) (first (stmts_broken (bodies rs) q a n)))) (afters (blocks_in (bodies rs) n) (afters (r.stmt.blocks (at + k)) ds))) place rest in
    let x = first (repeated (afters (r.stmt.blocks (at + k)) ds) (blocks_in (bodies rs) ((at + k) + r.stmt.size))) in
    let y = first (stmts_broken (bodies rs) q a ((at + k) + r.stmt.size)) in
    record {
      size_is = moved.size_is ∙ ap cap (omega arith);
      width_is = moved.width_is ∙ ap bits_capped (max-assoc width (widest r.values a) (widest_item rs a));
      values_are = λ w. moved.values_are w ∙ ap first (append_assoc (values w) (values_at w r.values a (at + k)) (item_values w rs a ((at + k) + r.stmt.size)));
      bodies_are =
          moved.bodies_are
          ∙ earlier-assoc start (earlier b c) (earlier x y)
          ∙ ap (earlier start) (weave b c x y)
          ∙ (λ i. earlier start (earlier (sym (first-repeated-append ds (r.stmt.blocks (at + k)) (blocks_in (bodies rs) ((at + k) + r.stmt.size))) i)
          (sym (first-append (r.stmt.broken q a (at + k)) (stmts_broken (bodies rs) q a ((at + k) + r.stmt.size))) i)));
      met = subst (λ (es : List Declared). Meets (cases_from ts p env items (cap at) next).met es) (sym (afters-append (r.stmt.blocks (at + k)) (blocks_in (bodies rs) ((at + k) + r.stmt.size)) ds)) moved.met;
    }

none-yet : (met : Env) (ds : List Declared) → Meets met ds → CaseFits (record { seen = no_cases; met = met }) 0 0 (λ w. []) None ds
none-yet met ds h = record { size_is = refl; width_is = no-bits; values_are = λ w. empty (is_wide w); bodies_are = refl; met = h }
  where
    empty : (c : Bool) → case_values no_cases c ≡ None
    empty true = refl
    empty false = refl

zero-max : (n : ℕ) → max 0 n ≡ n
zero-max n = omega arith

case-fits : (kind : VCaseKind) (on : VExpr) (ts : List ItemTold) (rs : List ItemRules) → Each ItemExact ts rs → (p : Procedure) (env : Env) (items : List VItem) (at : ℕ) (met : Env) (ds : List Declared) → Meets met ds
    → StmtFits (case_walk (expr_seen on) ts p env items (cap at) met) (stmt_rules (VStmt-F.Case kind on rs)) (procedure_of p) (around env items) at ds
case-fits kind on ts rs es p env items at met ds h =
    let a = around env items in
    let q = procedure_of p in
    let test = expr_seen on env items (plus (cap at) 2) in
    let tr = rules_of on in
    let f = expr-at on env items (plus (cap at) 2) (at + 2) (plus-cap at 2) in
    let from = plus (cap at) (plus 3 test.size) in
    let from_is : from ≡ cap (at + (3 + tr.size)) = sum-of (cap at) (plus 3 test.size) at (3 + tr.size) refl (sum-of 3 test.size 3 tr.size refl f.size) in
    let here = at + (3 + tr.size) in
    let zero_at : here + 0 ≡ here = omega arith in
    let begin : CaseTold = record { seen = no_cases; met = met } in
    let k0 = from-cases ts rs p env items here 0 0 (λ w. []) None begin ds es (none-yet met ds h) in
    let k = subst (λ n. CaseFits (cases_from ts p env items n begin) (0 + stmts_size (bodies rs)) (max 0 (widest_item rs a)) (λ w. [] ++ item_values w rs a here)
    (earlier None (earlier (first (repeated ds (blocks_in (bodies rs) here))) (first (stmts_broken (bodies rs) q a here)))) (afters (blocks_in (bodies rs) here) ds)) (sym from_is)
    (subst (λ n. CaseFits (cases_from ts p env items (cap here) begin) (0 + stmts_size (bodies rs)) (max 0 (widest_item rs a)) (λ w. [] ++ item_values w rs a n)
    (earlier None (earlier (first (repeated ds (blocks_in (bodies rs) n))) (first (stmts_broken (bodies rs) q a n)))) (afters (blocks_in (bodies rs) n) ds)) zero_at k0) in
    let list = cases_from ts p env items from begin in
    let w = max (tr.width a) (widest_item rs a) in
    let wide : is_wide (max test.width list.seen.width) ≡ is_wide w =
    ap is_wide ((λ i. max (f.width i) ((k.width_is ∙ ap bits_capped (zero-max (widest_item rs a))) i)) ∙ max-capped (tr.width a) (widest_item rs a)) ∙ is_wide-capped w in
    let x = first (repeated ds (blocks_in (bodies rs) here)) in
    let y = first (stmts_broken (bodies rs) q a here) in
    let t = first (tr.broken a w (at + 2)) in
    let v = first (item_values w rs a here) in
    record {
      size = sum-of 4 (plus test.size list.seen.size) 4 (tr.size + stmts_size (bodies rs)) refl (sum-of test.size list.seen.size tr.size (stmts_size (bodies rs)) f.size (k.size_is ∙ ap cap (omega arith)));
      broken =
          (λ i. earlier (in_context test (wide i)) (earlier (case_values list.seen (wide i)) (k.bodies_are i)))
          ∙ (λ i. earlier (f.broken w i) (earlier (k.values_are w i) (none-earlier (earlier x y) i)))
          ∙ ap (earlier t) (swap v x y)
          ∙ swap t x (earlier v y)
          ∙ ap (λ z. earlier x (earlier t z)) (sym (first-append (item_values w rs a here) (stmts_broken (bodies rs) q a here)))
          ∙ ap (earlier x) (sym (first-append (tr.broken a w (at + 2)) (item_values w rs a here ++ stmts_broken (bodies rs) q a here)));
      met = k.met;
    }

case-exact : (kind : VCaseKind) (on : VExpr) (ts : List ItemTold) (rs : List ItemRules) → Each ItemExact ts rs → StmtExact (stmt_step (VStmt-F.Case kind on ts)) (stmt_rules (VStmt-F.Case kind on rs))
case-exact kind on ts rs es = record {
  labels = λ to at. labels-of ts rs to (at + (3 + (rules_of on).size)) es;
  parts = λ at. parts-of ts rs (at + (3 + (rules_of on).size)) es;
  walk = case-fits kind on ts rs es;
}

empty-exact : StmtExact (branch_step VBranch-F.Empty) (branch_rules VBranch-F.Empty)
empty-exact = record {
  labels = λ to at. sym (append-nil to);
  parts = λ at. tt;
  walk = λ p env items at met ds h. record { size = refl; broken = sym (earlier-none None); met = h };
}

-- what a fold makes of each form of a statement
module _ {A B D : Type 0} (b : VBranch-F A B D → A) (c : VCaseItem-F A B D → B) (s : VStmt-F A B D → D) where
  abbrev of_branch : VBranch → A
  of_branch = fold-VBranch A B D b c s

  abbrev of_case : VCaseItem → B
  of_case = fold-VCaseItem A B D b c s

  abbrev of_stmt : VStmt → D
  of_stmt = fold-VStmt A B D b c s

  at-statement : (x : VStmt) → of_branch (G.Statement x) ≡ b (VBranch-F.Statement (of_stmt x))
  at-statement x = ap of_branch (sym (G.rolls-Statement x)) ∙ fold-roll-VBranch A B D b c s (VBranch-F.Statement x)

  at-empty : of_branch G.Empty ≡ b VBranch-F.Empty
  at-empty = ap of_branch (sym G.rolls-Empty) ∙ fold-roll-VBranch A B D b c s VBranch-F.Empty

  at-item : (xs : List VExpr) (x : VBranch) → of_case (C.Item xs x) ≡ c (VCaseItem-F.Item xs (of_branch x))
  at-item xs x = ap of_case (sym (C.rolls-Item xs x)) ∙ fold-roll-VCaseItem A B D b c s (VCaseItem-F.Item xs x)

  at-default : (x : VBranch) → of_case (C.Default x) ≡ c (VCaseItem-F.Default (of_branch x))
  at-default x = ap of_case (sym (C.rolls-Default x)) ∙ fold-roll-VCaseItem A B D b c s (VCaseItem-F.Default x)

  at-block : (l : Option VLabel) (xs : List VStmt) → of_stmt (T.Block l xs) ≡ s (VStmt-F.Block l (map of_stmt xs))
  at-block l xs = ap of_stmt (sym (T.rolls-Block l xs)) ∙ fold-roll-VStmt A B D b c s (VStmt-F.Block l xs)

  at-if : (on : VExpr) (x : VBranch) → of_stmt (T.If on x None) ≡ s (VStmt-F.If on (of_branch x) None)
  at-if on x = ap of_stmt (sym (T.rolls-If on x None)) ∙ fold-roll-VStmt A B D b c s (VStmt-F.If on x None)

  at-else : (on : VExpr) (x y : VBranch) → of_stmt (T.If on x (Some y)) ≡ s (VStmt-F.If on (of_branch x) (Some (of_branch y)))
  at-else on x y = ap of_stmt (sym (T.rolls-If on x (Some y))) ∙ fold-roll-VStmt A B D b c s (VStmt-F.If on x (Some y))

  at-case : (kind : VCaseKind) (on : VExpr) (xs : List VCaseItem) → of_stmt (T.Case kind on xs) ≡ s (VStmt-F.Case kind on (map of_case xs))
  at-case kind on xs = ap of_stmt (sym (T.rolls-Case kind on xs)) ∙ fold-roll-VStmt A B D b c s (VStmt-F.Case kind on xs)

  at-assign : (t : VLval) (x : VExpr) (later : Bool) → of_stmt (T.Assign t x later) ≡ s (VStmt-F.Assign t x later)
  at-assign t x later = ap of_stmt (sym (T.rolls-Assign t x later)) ∙ fold-roll-VStmt A B D b c s (VStmt-F.Assign t x later)

both : {w v : StmtTold} {r q : StmtRules} → w ≡ v → r ≡ q → StmtExact v q → StmtExact w r
both {w} {v} {r} {q} e f h = subst (λ (x : StmtTold). StmtExact x r) (sym e) (subst (λ (y : StmtRules). StmtExact v y) (sym f) h)

item-both : {w v : ItemTold} {r q : ItemRules} → w ≡ v → r ≡ q → ItemExact v q → ItemExact w r
item-both {w} {v} {r} {q} e f h = subst (λ (x : ItemTold). ItemExact x r) (sym e) (subst (λ (y : ItemRules). ItemExact v y) (sym f) h)

abbrev P : VBranch → Type 0
P x = StmtExact (branch_told x) (rules_of_branch x)

abbrev case_of : VCaseItem → ItemRules
case_of = fold-VCaseItem StmtRules ItemRules StmtRules branch_rules item_rules stmt_rules

abbrev Q : VCaseItem → Type 0
Q x = ItemExact (item_told x) (case_of x)

abbrev Z : VStmt → Type 0
Z x = StmtExact (stmt_told x) (rules_of_stmt x)

each-stmt : (xs : List VStmt) → I.Each Z xs → Each StmtExact (map stmt_told xs) (map rules_of_stmt xs)
each-stmt [] hs = none
each-stmt (x ∷ xs) hs = more hs.0 (each-stmt xs hs.1)

each-item : (xs : List VCaseItem) → I.Each Q xs → Each ItemExact (map item_told xs) (map case_of xs)
each-item [] hs = none
each-item (x ∷ xs) hs = more hs.0 (each-item xs hs.1)

block-step : (l : Option VLabel) (xs : List VStmt) → I.Each Z xs → StmtExact (block_step l (map stmt_told xs)) (block_rules l (map rules_of_stmt xs))
block-step None xs hs = plain-exact (map stmt_told xs) (map rules_of_stmt xs) (each-stmt xs hs)
block-step (Some l) xs hs = named-exact l (map stmt_told xs) (map rules_of_stmt xs) (each-stmt xs hs)

if-step : (on : VExpr) (x : VBranch) (other : Option VBranch) → P x → I.Perhaps P other → Z (T.If on x other)
if-step on x None h k =
    both (at-if branch_step item_step stmt_step on x) (at-if branch_rules item_rules stmt_rules on x) (if-exact on (branch_told x) (rules_of_branch x) None None h tt)
if-step on x (Some y) h k =
    both (at-else branch_step item_step stmt_step on x y) (at-else branch_rules item_rules stmt_rules on x y)
    (if-exact on (branch_told x) (rules_of_branch x) (Some (branch_told y)) (Some (rules_of_branch y)) h k)

steps : I.StmtSteps P Q Z
steps = record {
  branch-statement = λ x h. both (at-statement branch_step item_step stmt_step x) (at-statement branch_rules item_rules stmt_rules x) h;
  branch-empty = both (at-empty branch_step item_step stmt_step) (at-empty branch_rules item_rules stmt_rules) empty-exact;
  case-item = λ xs x h. item-both (at-item branch_step item_step stmt_step xs x) (at-item branch_rules item_rules stmt_rules xs x) (values-item xs (branch_told x) (rules_of_branch x) h);
  case-default = λ x h. item-both (at-default branch_step item_step stmt_step x) (at-default branch_rules item_rules stmt_rules x) (default-item (branch_told x) (rules_of_branch x) h);
  stmt-block = λ l xs hs. both (at-block branch_step item_step stmt_step l xs) (at-block branch_rules item_rules stmt_rules l xs) (block-step l xs hs);
  stmt-if = if-step;
  stmt-case = λ kind on xs hs.
      both (at-case branch_step item_step stmt_step kind on xs) (at-case branch_rules item_rules stmt_rules kind on xs) (case-exact kind on (map item_told xs) (map case_of xs) (each-item xs hs));
  stmt-assign = λ t x later. both (at-assign branch_step item_step stmt_step t x later) (at-assign branch_rules item_rules stmt_rules t x later) (assign-exact t x later);
}

pub stmt-exact : (x : VStmt) → StmtExact (stmt_told x) (rules_of_stmt x)
stmt-exact = I.ind-stmt P Q Z steps

pub branch-exact : (x : VBranch) → StmtExact (branch_told x) (rules_of_branch x)
branch-exact = I.ind-branch P Q Z steps
