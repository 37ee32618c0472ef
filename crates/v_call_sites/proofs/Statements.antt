-- The same of statements: the first token at which a statement breaks a rule, where some functions lead back, is the first one where none
-- does, or its first call of one that does.
use Rattle.std.proofs.Common.{◌≡◌, ℕ, suc, ◌+◌, max, Bool, List, [], ◌∷◌, ◌++◌, map, Option, Some, None, refl, sym, ap, ◌∙◌, subst}
use Rattle.v_tree.specs.Names.{Name}
use Rattle.v_tree.specs.Scopes.{Scope, inside, repeated}
use Rattle.v_tree.specs.ExprRules.{Rules, rules_of, alone, only_if, listed_size}
use Rattle.v_tree.specs.StmtRules.{StmtRules, ItemRules, Procedure, target_of, mark_breaks, branch_rules, item_rules, stmt_rules, block_rules, else_rules, rules_of_stmt, rules_of_branch, locals_from, locals_size, blocks_in, stmts_broken, values_at, widest, widest_item, item_values, bodies}
use Rattle.v_tree.specs.declared.expressions.VExpr.{VExpr}
use Rattle.v_tree.specs.declared.statements.VBranch.{VBranch, VBranch-F}
use Rattle.v_tree.specs.declared.statements.VCaseItem.{VCaseItem, VCaseItem-F, fold-VCaseItem}
use Rattle.v_tree.specs.declared.statements.VCaseKind.{VCaseKind}
use Rattle.v_tree.specs.declared.statements.VLabel.{VLabel}
use Rattle.v_tree.specs.declared.statements.VLval.{VLval}
use Rattle.v_tree.specs.declared.statements.VStmt.{VStmt, VStmt-F}
use Rattle.v_tree.specs.declared.statements.VStmt.TheVariants as T
use Rattle.v_tree.proofs.Induction as I
use Rattle.v_expr_rules.specs.Seen.{earlier}
use Rattle.v_expr_rules.specs.Least.{first}
use Rattle.v_expr_rules.proofs.Listed.{Each}
use Rattle.v_expr_rules.proofs.Listed.Each.{none, more}
use Rattle.v_call_sites.specs.Sites.{Sites, back, calls_from, sites_of}
use Rattle.v_call_sites.specs.StmtSites.{target_sites, StmtSites, ItemSites, stmts_of, items_of, stmts_calls, values_calls, bodies_calls, branch_sites, item_sites, stmt_sites, else_of, else_calls, block_calls, stmt_sites_of, branch_sites_of, case_sites_of}
use Rattle.v_call_sites.proofs.Expressions.{with, plain, Splits, expr-splits, two-parts, before, no-parts, alone-split}
use Rattle.v_call_sites.proofs.Levels.{at-statement, at-empty, at-item, at-default, at-block, at-if, at-else, at-case, at-assign}
use Rattle.v_call_sites.proofs.Targets.{target-splits}

pub record StmtSplits (s : StmtSites) (r : StmtRules) : Type 0 where
  pub same : s.rules ≡ r
  pub broken : (p : Procedure) (a : Scope) (b : Name → Bool) (at : ℕ)
      → first (s.rules.broken p (with a b) at) ≡ earlier (first (s.rules.broken p (plain a) at)) (first (back b (s.calls a at)))

record ItemSplits (s : ItemSites) (r : ItemRules) : Type 0 where
  same : s.rules ≡ r
  width : (a : Scope) (b : Name → Bool) → widest s.rules.values (with a b) ≡ widest s.rules.values (plain a)
  values : (w : ℕ) (a : Scope) (b : Name → Bool) (at : ℕ)
      → first (values_at w s.rules.values (with a b) at) ≡ earlier (first (values_at w s.rules.values (plain a) at)) (first (back b (s.values a at)))
  body : (p : Procedure) (a : Scope) (b : Name → Bool) (at : ℕ)
      → first (s.rules.stmt.broken p (with a b) at) ≡ earlier (first (s.rules.stmt.broken p (plain a) at)) (first (back b (s.calls a at)))

-- lists of statements
stmts-same : (ss : List StmtSites) (rs : List StmtRules) → Each StmtSplits ss rs → stmts_of ss ≡ rs
stmts-same _ _ none = refl
stmts-same _ _ (more {xs = ss} {ys = rs} h hs) = λ i. h.same i ∷ stmts-same ss rs hs i

stmts-split : (ss : List StmtSites) (rs : List StmtRules) (p : Procedure) (a : Scope) (b : Name → Bool) (at : ℕ) → Each StmtSplits ss rs
    → first (stmts_broken (stmts_of ss) p (with a b) at) ≡ earlier (first (stmts_broken (stmts_of ss) p (plain a) at)) (first (back b (stmts_calls ss a at)))
stmts-split _ _ p a b at none = no-parts []
stmts-split _ _ p a b at (more {x = s} {xs = ss} {ys = rs} h hs) =
    two-parts (s.rules.broken p (with a b) at) (stmts_broken (stmts_of ss) p (with a b) (at + s.rules.size)) (s.rules.broken p (plain a) at) (stmts_broken (stmts_of ss) p (plain a) (at + s.rules.size)) b
    (s.calls a at) (stmts_calls ss a (at + s.rules.size)) (h.broken p a b at) (stmts-split ss rs p a b (at + s.rules.size) hs)

block-split : (label : Option VLabel) (ss : List StmtSites) (rs : List StmtRules) (p : Procedure) (a : Scope) (b : Name → Bool) (at : ℕ) → Each StmtSplits ss rs
    → first ((block_rules label (stmts_of ss)).broken p (with a b) at) ≡ earlier (first ((block_rules label (stmts_of ss)).broken p (plain a) at)) (first (back b (block_calls label ss a at)))
block-split None ss rs p a b at hs = stmts-split ss rs p a b (suc at) hs
block-split (Some l) ss rs p a b at hs =
    let begin = at + (3 + locals_size l.locals) in
    let own = locals_from l.locals (at + 3) ++ blocks_in (stmts_of ss) begin in
    before (repeated [] own) (stmts_broken (stmts_of ss) p (with (inside own a) b) begin) (stmts_broken (stmts_of ss) p (plain (inside own a)) begin) (first (back b (stmts_calls ss (inside own a) begin)))
    (stmts-split ss rs p (inside own a) b begin hs)

block-splits : (label : Option VLabel) (ss : List StmtSites) (rs : List StmtRules) → Each StmtSplits ss rs → StmtSplits (stmt_sites (VStmt-F.Block label ss)) (stmt_rules (VStmt-F.Block label rs))
block-splits label ss rs hs = record {
  same = ap (λ (qs : List StmtRules). stmt_rules (VStmt-F.Block label qs)) (stmts-same ss rs hs);
  broken = λ p a b at. block-split label ss rs p a b at hs;
}

-- `if` and `else`
abbrev ElseSplits : Option StmtSites → Option StmtRules → Type 0
ElseSplits None None = Unit {0}
ElseSplits None (Some r) = ⊥
ElseSplits (Some s) None = ⊥
ElseSplits (Some s) (Some r) = StmtSplits s r

else-same : (o : Option StmtSites) (q : Option StmtRules) → ElseSplits o q → else_of o ≡ q
else-same None None h = refl
else-same None (Some r) h = absurd h
else-same (Some s) None h = absurd h
else-same (Some s) (Some r) h = ap Some h.same

else-split : (o : Option StmtSites) (q : Option StmtRules) (p : Procedure) (a : Scope) (b : Name → Bool) (at : ℕ) → ElseSplits o q
    → first ((else_rules (else_of o)).broken p (with a b) at) ≡ earlier (first ((else_rules (else_of o)).broken p (plain a) at)) (first (back b (else_calls o a at)))
else-split None None p a b at h = no-parts []
else-split None (Some r) p a b at h = absurd h
else-split (Some s) None p a b at h = absurd h
else-split (Some s) (Some r) p a b at h = h.broken p a b (suc at)

if-splits : (on : VExpr) (s : StmtSites) (r : StmtRules) (o : Option StmtSites) (q : Option StmtRules) → StmtSplits s r → ElseSplits o q
    → StmtSplits (stmt_sites (VStmt-F.If on s o)) (stmt_rules (VStmt-F.If on r q))
if-splits on s r o q h k =
    let test = rules_of on in
    let other = else_rules (else_of o) in
    record {
      same = λ i. stmt_rules (VStmt-F.If on (h.same i) (else-same o q k i));
      broken = λ p a b at.
          let second = at + (3 + test.size) in
          let third = at + (3 + (test.size + s.rules.size)) in
          two-parts (alone test (with a b) (at + 2)) (s.rules.broken p (with a b) second ++ other.broken p (with a b) third) (alone test (plain a) (at + 2))
          (s.rules.broken p (plain a) second ++ other.broken p (plain a) third) b ((sites_of on).calls a (at + 2)) (s.calls a second ++ else_calls o a third)
          (alone-split (sites_of on) test a b (at + 2) (expr-splits on))
          (two-parts (s.rules.broken p (with a b) second) (other.broken p (with a b) third) (s.rules.broken p (plain a) second) (other.broken p (plain a) third) b
          (s.calls a second) (else_calls o a third) (h.broken p a b second) (else-split o q p a b third k));
    }

-- the items of a `case`
each-expr : (xs : List VExpr) → Each Splits (map sites_of xs) (map rules_of xs)
each-expr [] = none
each-expr (x ∷ xs) = more (expr-splits x) (each-expr xs)

values-width : (ss : List Sites) (rs : List Rules) (a : Scope) (b : Name → Bool) → Each Splits ss rs → widest rs (with a b) ≡ widest rs (plain a)
values-width _ _ a b none = refl
values-width _ _ a b (more {xs = ss} {ys = rs} h hs) = λ i. max (h.width a b i) (values-width ss rs a b hs i)

values-split : (ss : List Sites) (rs : List Rules) (w : ℕ) (a : Scope) (b : Name → Bool) (at : ℕ) → Each Splits ss rs
    → first (values_at w rs (with a b) at) ≡ earlier (first (values_at w rs (plain a) at)) (first (back b (calls_from ss a at)))
values-split _ _ w a b at none = no-parts []
values-split _ _ w a b at (more {x = s} {y = r} {xs = ss} {ys = rs} h hs) =
    two-parts (r.broken (with a b) w at) (values_at w rs (with a b) (at + suc r.size)) (r.broken (plain a) w at) (values_at w rs (plain a) (at + suc r.size)) b
    (s.calls a at) (calls_from ss a (at + suc s.size)) (h.broken a b w at)
    (values-split ss rs w a b (at + suc r.size) hs ∙ ap (λ n. earlier (first (values_at w rs (plain a) (at + suc r.size))) (first (back b (calls_from ss a (at + suc n))))) (sym h.size))

value-item : (xs : List VExpr) (s : StmtSites) (r : StmtRules) → StmtSplits s r → ItemSplits (item_sites (VCaseItem-F.Item xs s)) (item_rules (VCaseItem-F.Item xs r))
value-item xs s r h = record {
  same = ap (λ q. item_rules (VCaseItem-F.Item xs q)) h.same;
  width = λ a b. values-width (map sites_of xs) (map rules_of xs) a b (each-expr xs);
  values = λ w a b at. values-split (map sites_of xs) (map rules_of xs) w a b at (each-expr xs);
  body = λ p a b at. h.broken p a b (at + suc (listed_size (map rules_of xs)));
}

default-item : (s : StmtSites) (r : StmtRules) → StmtSplits s r → ItemSplits (item_sites (VCaseItem-F.Default s)) (item_rules (VCaseItem-F.Default r))
default-item s r h = record {
  same = ap (λ q. item_rules (VCaseItem-F.Default q)) h.same;
  width = λ a b. refl;
  values = λ w a b at. no-parts [];
  body = λ p a b at. h.broken p a b (at + 2);
}

items-same : (ss : List ItemSites) (rs : List ItemRules) → Each ItemSplits ss rs → items_of ss ≡ rs
items-same _ _ none = refl
items-same _ _ (more {xs = ss} {ys = rs} h hs) = λ i. h.same i ∷ items-same ss rs hs i

items-width : (ss : List ItemSites) (rs : List ItemRules) (a : Scope) (b : Name → Bool) → Each ItemSplits ss rs → widest_item (items_of ss) (with a b) ≡ widest_item (items_of ss) (plain a)
items-width _ _ a b none = refl
items-width _ _ a b (more {xs = ss} {ys = rs} h hs) = λ i. max (h.width a b i) (items-width ss rs a b hs i)

items-values : (ss : List ItemSites) (rs : List ItemRules) (w : ℕ) (a : Scope) (b : Name → Bool) (at : ℕ) → Each ItemSplits ss rs
    → first (item_values w (items_of ss) (with a b) at) ≡ earlier (first (item_values w (items_of ss) (plain a) at)) (first (back b (values_calls ss a at)))
items-values _ _ w a b at none = no-parts []
items-values _ _ w a b at (more {x = s} {xs = ss} {ys = rs} h hs) =
    let end = at + s.rules.stmt.size in
    two-parts (values_at w s.rules.values (with a b) at) (item_values w (items_of ss) (with a b) end) (values_at w s.rules.values (plain a) at) (item_values w (items_of ss) (plain a) end) b
    (s.values a at) (values_calls ss a end) (h.values w a b at) (items-values ss rs w a b end hs)

items-bodies : (ss : List ItemSites) (rs : List ItemRules) (p : Procedure) (a : Scope) (b : Name → Bool) (at : ℕ) → Each ItemSplits ss rs
    → first (stmts_broken (bodies (items_of ss)) p (with a b) at) ≡ earlier (first (stmts_broken (bodies (items_of ss)) p (plain a) at)) (first (back b (bodies_calls ss a at)))
items-bodies _ _ p a b at none = no-parts []
items-bodies _ _ p a b at (more {x = s} {xs = ss} {ys = rs} h hs) =
    let end = at + s.rules.stmt.size in
    two-parts (s.rules.stmt.broken p (with a b) at) (stmts_broken (bodies (items_of ss)) p (with a b) end) (s.rules.stmt.broken p (plain a) at) (stmts_broken (bodies (items_of ss)) p (plain a) end) b
    (s.calls a at) (bodies_calls ss a end) (h.body p a b at) (items-bodies ss rs p a b end hs)

case-splits : (kind : VCaseKind) (on : VExpr) (ss : List ItemSites) (rs : List ItemRules) → Each ItemSplits ss rs
    → StmtSplits (stmt_sites (VStmt-F.Case kind on ss)) (stmt_rules (VStmt-F.Case kind on rs))
case-splits kind on ss rs hs =
    let test = rules_of on in
    let is = items_of ss in
    let h = expr-splits on in
    record {
      same = ap (λ (qs : List ItemRules). stmt_rules (VStmt-F.Case kind on qs)) (items-same ss rs hs);
      broken = λ p a b at.
          let here = at + (3 + test.size) in
          let w = max (test.width (plain a)) (widest_item is (plain a)) in
          (λ i. first (test.broken (with a b) (max (h.width a b i) (items-width ss rs a b hs i)) (at + 2)
          ++ (item_values (max (h.width a b i) (items-width ss rs a b hs i)) is (with a b) here ++ stmts_broken (bodies is) p (with a b) here)))
          ∙ two-parts (test.broken (with a b) w (at + 2)) (item_values w is (with a b) here ++ stmts_broken (bodies is) p (with a b) here) (test.broken (plain a) w (at + 2))
          (item_values w is (plain a) here ++ stmts_broken (bodies is) p (plain a) here) b ((sites_of on).calls a (at + 2)) (values_calls ss a here ++ bodies_calls ss a here)
          (h.broken a b w (at + 2))
          (two-parts (item_values w is (with a b) here) (stmts_broken (bodies is) p (with a b) here) (item_values w is (plain a) here) (stmts_broken (bodies is) p (plain a) here) b
          (values_calls ss a here) (bodies_calls ss a here) (items-values ss rs w a b here hs) (items-bodies ss rs p a b here hs));
    }

-- an assignment
assign-splits : (target : VLval) (value : VExpr) (later : Bool) → StmtSplits (stmt_sites (VStmt-F.Assign target value later)) (stmt_rules (VStmt-F.Assign target value later))
assign-splits target value later =
    let to = target_of target in
    let given = rules_of value in
    let h = target-splits target in
    let k = expr-splits value in
    record {
      same = refl;
      broken = λ p a b at.
          let from = at + suc to.size in
          let w = max (to.width (plain a)) (given.width (plain a)) in
          let own = to.by_procedure (plain a) at in
          let mark = only_if (mark_breaks p later (to.has_signal (plain a))) (at + to.size) in
          (λ i. first (to.broken (with a b) at ++ (h.written a b at i ++ (only_if (mark_breaks p later (h.signal a b i)) (at + to.size)
          ++ given.broken (with a b) (max (h.width a b i) (k.width a b i)) from))))
          ∙ two-parts (to.broken (with a b) at) (own ++ (mark ++ given.broken (with a b) w from)) (to.broken (plain a) at) (own ++ (mark ++ given.broken (plain a) w from)) b
          ((target_sites target).calls a at) ((sites_of value).calls a from) (h.broken a b at)
          (before own (mark ++ given.broken (with a b) w from) (mark ++ given.broken (plain a) w from) (first (back b ((sites_of value).calls a from)))
          (before mark (given.broken (with a b) w from) (given.broken (plain a) w from) (first (back b ((sites_of value).calls a from))) (k.broken a b w from)));
    }

-- induction
both : {s t : StmtSites} {r q : StmtRules} → s ≡ t → r ≡ q → StmtSplits t q → StmtSplits s r
both {s} {t} {r} {q} e f h = subst (λ (x : StmtSites). StmtSplits x r) (sym e) (subst (λ (y : StmtRules). StmtSplits t y) (sym f) h)

item-both : {s t : ItemSites} {r q : ItemRules} → s ≡ t → r ≡ q → ItemSplits t q → ItemSplits s r
item-both {s} {t} {r} {q} e f h = subst (λ (x : ItemSites). ItemSplits x r) (sym e) (subst (λ (y : ItemRules). ItemSplits t y) (sym f) h)

abbrev P : VBranch → Type 0
P x = StmtSplits (branch_sites_of x) (rules_of_branch x)

abbrev case_of : VCaseItem → ItemRules
case_of = fold-VCaseItem StmtRules ItemRules StmtRules branch_rules item_rules stmt_rules

abbrev Q : VCaseItem → Type 0
Q x = ItemSplits (case_sites_of x) (case_of x)

abbrev Z : VStmt → Type 0
Z x = StmtSplits (stmt_sites_of x) (rules_of_stmt x)

each-stmt : (xs : List VStmt) → I.Each Z xs → Each StmtSplits (map stmt_sites_of xs) (map rules_of_stmt xs)
each-stmt [] hs = none
each-stmt (x ∷ xs) hs = more hs.0 (each-stmt xs hs.1)

each-item : (xs : List VCaseItem) → I.Each Q xs → Each ItemSplits (map case_sites_of xs) (map case_of xs)
each-item [] hs = none
each-item (x ∷ xs) hs = more hs.0 (each-item xs hs.1)

if-step : (on : VExpr) (x : VBranch) (other : Option VBranch) → P x → I.Perhaps P other → Z (T.If on x other)
if-step on x None h k =
    both (at-if branch_sites item_sites stmt_sites on x) (at-if branch_rules item_rules stmt_rules on x) (if-splits on (branch_sites_of x) (rules_of_branch x) None None h tt)
if-step on x (Some y) h k =
    both (at-else branch_sites item_sites stmt_sites on x y) (at-else branch_rules item_rules stmt_rules on x y)
    (if-splits on (branch_sites_of x) (rules_of_branch x) (Some (branch_sites_of y)) (Some (rules_of_branch y)) h k)

empty-splits : StmtSplits (branch_sites VBranch-F.Empty) (branch_rules VBranch-F.Empty)
empty-splits = record { same = refl; broken = λ p a b at. no-parts [] }

steps : I.StmtSteps P Q Z
steps = record {
  branch-statement = λ x h. both (at-statement branch_sites item_sites stmt_sites x) (at-statement branch_rules item_rules stmt_rules x) h;
  branch-empty = both (at-empty branch_sites item_sites stmt_sites) (at-empty branch_rules item_rules stmt_rules) empty-splits;
  case-item = λ xs x h. item-both (at-item branch_sites item_sites stmt_sites xs x) (at-item branch_rules item_rules stmt_rules xs x) (value-item xs (branch_sites_of x) (rules_of_branch x) h);
  case-default = λ x h. item-both (at-default branch_sites item_sites stmt_sites x) (at-default branch_rules item_rules stmt_rules x) (default-item (branch_sites_of x) (rules_of_branch x) h);
  stmt-block = λ l xs hs.
      both (at-block branch_sites item_sites stmt_sites l xs) (at-block branch_rules item_rules stmt_rules l xs) (block-splits l (map stmt_sites_of xs) (map rules_of_stmt xs) (each-stmt xs hs));
  stmt-if = if-step;
  stmt-case = λ kind on xs hs.
      both (at-case branch_sites item_sites stmt_sites kind on xs) (at-case branch_rules item_rules stmt_rules kind on xs) (case-splits kind on (map case_sites_of xs) (map case_of xs) (each-item xs hs));
  stmt-assign = λ t x later. both (at-assign branch_sites item_sites stmt_sites t x later) (at-assign branch_rules item_rules stmt_rules t x later) (assign-splits t x later);
}

pub stmt-splits : (x : VStmt) → StmtSplits (stmt_sites_of x) (rules_of_stmt x)
stmt-splits = I.ind-stmt P Q Z steps
