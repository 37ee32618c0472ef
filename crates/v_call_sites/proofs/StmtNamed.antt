-- The functions that a statement calls by the rules are those that its calls name, and no name of a scope hangs on where it stands.
use Rattle.std.proofs.Common.{◌≡◌, ℕ, suc, ◌+◌, Bool, true, false, ◌||◌, List, [], ◌∷◌, ◌++◌, map, Option, Some, None, refl, sym, ap, ◌∙◌, subst, if◌then◌else◌}
use Rattle.std.specs.List.{list_any}
use Rattle.std.specs.Str.{bytes_eq}
use Rattle.std.proofs.lemmas.List.Folds.{list_any-append}
use Rattle.v_tree.specs.Names.{Name}
use Rattle.v_tree.specs.Scopes.{Scope, value, local, inside, bits_of, has_range}
use Rattle.v_tree.specs.ExprRules.{rules_of, calls_in, listed_size}
use Rattle.v_tree.specs.StmtRules.{StmtRules, ItemRules, target_of, branch_rules, item_rules, stmt_rules, block_rules, else_rules, rules_of_stmt, rules_of_branch, local_size, locals_from, locals_size, blocks_in, calls_in_stmts, bodies}
use Rattle.v_tree.specs.declared.expressions.VExpr.{VExpr}
use Rattle.v_tree.specs.declared.items.VLocal.{VLocal}
use Rattle.v_tree.specs.declared.statements.VBranch.{VBranch, VBranch-F}
use Rattle.v_tree.specs.declared.statements.VCaseItem.{VCaseItem, VCaseItem-F, fold-VCaseItem}
use Rattle.v_tree.specs.declared.statements.VCaseKind.{VCaseKind}
use Rattle.v_tree.specs.declared.statements.VLabel.{VLabel}
use Rattle.v_tree.specs.declared.statements.VLval.{VLval}
use Rattle.v_tree.specs.declared.statements.VStmt.{VStmt, VStmt-F}
use Rattle.v_tree.specs.declared.statements.VStmt.TheVariants as T
use Rattle.v_tree.proofs.Induction as I
use Rattle.v_expr_rules.proofs.Listed.{Each}
use Rattle.v_expr_rules.proofs.Listed.Each.{none, more}
use Rattle.v_stmt_rules.proofs.Declared.{inside-append}
use Rattle.v_call_sites.specs.Sites.{Site, sites_of}
use Rattle.v_call_sites.specs.StmtSites.{target_sites, StmtSites, ItemSites, stmts_of, stmts_calls, values_calls, bodies_calls, branch_sites, item_sites, stmt_sites, else_of, else_calls, block_calls, items_of, stmt_sites_of, branch_sites_of, case_sites_of}
use Rattle.v_call_sites.proofs.Expressions.{plain}
use Rattle.v_call_sites.proofs.Levels.{at-statement, at-empty, at-item, at-default, at-block, at-if, at-else, at-case, at-assign}
use Rattle.v_call_sites.proofs.Named.{any_site, Calls, two-lists, expr-calls, each-calls, from-calls, target-calls}

pub record StmtNamed (s : StmtSites) (r : StmtRules) : Type 0 where
  pub same : s.rules ≡ r
  pub calls : Calls s.calls r.calls
  pub placeless : (n m : ℕ) (o : Scope) → inside (r.blocks n) o ≡ inside (r.blocks m) o

record ItemNamed (s : ItemSites) (r : ItemRules) : Type 0 where
  same : s.rules ≡ r
  calls : (f : Name → Bool) (a : Scope) (n m : ℕ) → (any_site f (s.values a n) || any_site f (s.calls a m)) ≡ list_any f (r.stmt.calls (plain a))
  placeless : (n m : ℕ) (o : Scope) → inside (r.stmt.blocks n) o ≡ inside (r.stmt.blocks m) o

-- names of variables, and of blocks
pub locals-placeless : (ls : List VLocal) (n m : ℕ) (o : Scope) → inside (locals_from ls n) o ≡ inside (locals_from ls m) o
locals-placeless [] n m o = refl
locals-placeless (l ∷ ls) n m o =
    λ i name. if bytes_eq l.name name then Some (value local (bits_of l.range) (has_range l.range)) else locals-placeless ls (n + local_size l) (m + local_size l) o i name

stmts-same : (ss : List StmtSites) (rs : List StmtRules) → Each StmtNamed ss rs → stmts_of ss ≡ rs
stmts-same _ _ none = refl
stmts-same _ _ (more {xs = ss} {ys = rs} h hs) = λ i. h.same i ∷ stmts-same ss rs hs i

stmts-named : (ss : List StmtSites) (rs : List StmtRules) → Each StmtNamed ss rs → Calls (stmts_calls ss) (calls_in_stmts rs)
stmts-named _ _ none f a at = refl
stmts-named _ _ (more {x = s} {y = r} {xs = ss} {ys = rs} h hs) f a at =
    two-lists f (s.calls a at) (stmts_calls ss a (at + s.rules.size)) (r.calls (plain a)) (calls_in_stmts rs (plain a)) (h.calls f a at) (stmts-named ss rs hs f a (at + s.rules.size))

blocks-placeless : (ss : List StmtSites) (rs : List StmtRules) → Each StmtNamed ss rs → (n m : ℕ) (o : Scope) → inside (blocks_in rs n) o ≡ inside (blocks_in rs m) o
blocks-placeless _ _ none n m o = refl
blocks-placeless _ _ (more {y = r} {xs = ss} {ys = rs} h hs) n m o =
    inside-append (r.blocks n) (blocks_in rs (n + r.size)) o
    ∙ ap (inside (r.blocks n)) (blocks-placeless ss rs hs (n + r.size) (m + r.size) o)
    ∙ h.placeless n m (inside (blocks_in rs (m + r.size)) o)
    ∙ sym (inside-append (r.blocks m) (blocks_in rs (m + r.size)) o)

own-placeless : (ls : List VLocal) (ss : List StmtSites) (rs : List StmtRules) → Each StmtNamed ss rs → (n m k l : ℕ) (o : Scope)
    → inside (locals_from ls n ++ blocks_in rs m) o ≡ inside (locals_from ls k ++ blocks_in rs l) o
own-placeless ls ss rs hs n m k l o =
    inside-append (locals_from ls n) (blocks_in rs m) o
    ∙ ap (inside (locals_from ls n)) (blocks-placeless ss rs hs m l o)
    ∙ locals-placeless ls n k (inside (blocks_in rs l) o)
    ∙ sym (inside-append (locals_from ls k) (blocks_in rs l) o)

block-calls : (label : Option VLabel) (ss : List StmtSites) (rs : List StmtRules) → Each StmtNamed ss rs → Calls (block_calls label ss) (block_rules label rs).calls
block-calls None ss rs hs f a at = stmts-named ss rs hs f a (suc at)
block-calls (Some l) ss rs hs f a at =
    let begin = at + (3 + locals_size l.locals) in
    ap (λ (qs : List StmtRules). any_site f (stmts_calls ss (inside (locals_from l.locals (at + 3) ++ blocks_in qs begin) a) begin)) (stmts-same ss rs hs)
    ∙ ap (λ (o : Scope). any_site f (stmts_calls ss o begin)) (own-placeless l.locals ss rs hs (at + 3) begin 0 0 a)
    ∙ stmts-named ss rs hs f (inside (locals_from l.locals 0 ++ blocks_in rs 0) a) begin

block-placeless : (label : Option VLabel) (ss : List StmtSites) (rs : List StmtRules) → Each StmtNamed ss rs → (n m : ℕ) (o : Scope)
    → inside ((block_rules label rs).blocks n) o ≡ inside ((block_rules label rs).blocks m) o
block-placeless None ss rs hs n m o = blocks-placeless ss rs hs (suc n) (suc m) o
block-placeless (Some l) ss rs hs n m o = refl

block-named : (label : Option VLabel) (ss : List StmtSites) (rs : List StmtRules) → Each StmtNamed ss rs → StmtNamed (stmt_sites (VStmt-F.Block label ss)) (stmt_rules (VStmt-F.Block label rs))
block-named label ss rs hs = record {
  same = ap (λ (qs : List StmtRules). stmt_rules (VStmt-F.Block label qs)) (stmts-same ss rs hs);
  calls = block-calls label ss rs hs;
  placeless = block-placeless label ss rs hs;
}

-- `if` and `else`
abbrev ElseNamed : Option StmtSites → Option StmtRules → Type 0
ElseNamed None None = Unit {0}
ElseNamed None (Some r) = ⊥
ElseNamed (Some s) None = ⊥
ElseNamed (Some s) (Some r) = StmtNamed s r

else-same : (o : Option StmtSites) (q : Option StmtRules) → ElseNamed o q → else_of o ≡ q
else-same None None h = refl
else-same None (Some r) h = absurd h
else-same (Some s) None h = absurd h
else-same (Some s) (Some r) h = ap Some h.same

else-named : (o : Option StmtSites) (q : Option StmtRules) → ElseNamed o q → Calls (else_calls o) (else_rules q).calls
else-named None None h f a at = refl
else-named None (Some r) h f a at = absurd h
else-named (Some s) None h f a at = absurd h
else-named (Some s) (Some r) h f a at = h.calls f a (suc at)

else-placeless : (o : Option StmtSites) (q : Option StmtRules) → ElseNamed o q → (n m : ℕ) (c : Scope) → inside ((else_rules q).blocks n) c ≡ inside ((else_rules q).blocks m) c
else-placeless None None h n m c = refl
else-placeless None (Some r) h n m c = absurd h
else-placeless (Some s) None h n m c = absurd h
else-placeless (Some s) (Some r) h n m c = h.placeless (suc n) (suc m) c

if-named : (on : VExpr) (s : StmtSites) (r : StmtRules) (o : Option StmtSites) (q : Option StmtRules) → StmtNamed s r → ElseNamed o q
    → StmtNamed (stmt_sites (VStmt-F.If on s o)) (stmt_rules (VStmt-F.If on r q))
if-named on s r o q h k =
    let size = (rules_of on).size in
    let other = else_rules q in
    record {
      same = λ i. stmt_rules (VStmt-F.If on (h.same i) (else-same o q k i));
      calls = λ f a at.
          let second = at + (3 + size) in
          let third = at + (3 + (size + s.rules.size)) in
          two-lists f ((sites_of on).calls a (at + 2)) (s.calls a second ++ else_calls o a third) ((rules_of on).calls (plain a)) (r.calls (plain a) ++ other.calls (plain a)) (expr-calls on f a (at + 2))
          (two-lists f (s.calls a second) (else_calls o a third) (r.calls (plain a)) (other.calls (plain a)) (h.calls f a second) (else-named o q k f a third));
      placeless = λ n m c.
          let last = inside (other.blocks (m + (3 + (size + r.size)))) c in
          inside-append (r.blocks (n + (3 + size))) (other.blocks (n + (3 + (size + r.size)))) c
          ∙ ap (inside (r.blocks (n + (3 + size)))) (else-placeless o q k (n + (3 + (size + r.size))) (m + (3 + (size + r.size))) c)
          ∙ h.placeless (n + (3 + size)) (m + (3 + size)) last
          ∙ sym (inside-append (r.blocks (m + (3 + size))) (other.blocks (m + (3 + (size + r.size)))) c);
    }

-- the items of a `case`
or-weave : (a b c d : Bool) → ((a || b) || (c || d)) ≡ ((a || c) || (b || d))
or-weave true b c d = refl
or-weave false true true d = refl
or-weave false true false d = refl
or-weave false false c d = refl

value-item : (xs : List VExpr) (s : StmtSites) (r : StmtRules) → StmtNamed s r → ItemNamed (item_sites (VCaseItem-F.Item xs s)) (item_rules (VCaseItem-F.Item xs r))
value-item xs s r h = record {
  same = ap (λ q. item_rules (VCaseItem-F.Item xs q)) h.same;
  calls = λ f a n m.
      (λ i. from-calls (map sites_of xs) (map rules_of xs) (each-calls xs) f a n i || h.calls f a (m + suc (listed_size (map rules_of xs))) i)
      ∙ sym (list_any-append f (calls_in (map rules_of xs) (plain a)) (r.calls (plain a)));
  placeless = λ n m o. h.placeless (n + suc (listed_size (map rules_of xs))) (m + suc (listed_size (map rules_of xs))) o;
}

default-item : (s : StmtSites) (r : StmtRules) → StmtNamed s r → ItemNamed (item_sites (VCaseItem-F.Default s)) (item_rules (VCaseItem-F.Default r))
default-item s r h = record {
  same = ap (λ q. item_rules (VCaseItem-F.Default q)) h.same;
  calls = λ f a n m. h.calls f a (m + 2);
  placeless = λ n m o. h.placeless (n + 2) (m + 2) o;
}

items-same : (ss : List ItemSites) (rs : List ItemRules) → Each ItemNamed ss rs → items_of ss ≡ rs
items-same _ _ none = refl
items-same _ _ (more {xs = ss} {ys = rs} h hs) = λ i. h.same i ∷ items-same ss rs hs i

items-named : (ss : List ItemSites) (rs : List ItemRules) → Each ItemNamed ss rs → (f : Name → Bool) (a : Scope) (n m : ℕ)
    → (any_site f (values_calls ss a n) || any_site f (bodies_calls ss a m)) ≡ list_any f (calls_in_stmts (bodies rs) (plain a))
items-named _ _ none f a n m = refl
items-named _ _ (more {x = s} {y = r} {xs = ss} {ys = rs} h hs) f a n m =
    let g : Site → Bool = λ (x : Site). f x.name in
    let vs = values_calls ss a (n + s.rules.stmt.size) in
    let bs = bodies_calls ss a (m + s.rules.stmt.size) in
    (λ i. list_any-append g (s.values a n) vs i || list_any-append g (s.calls a m) bs i)
    ∙ or-weave (any_site f (s.values a n)) (any_site f vs) (any_site f (s.calls a m)) (any_site f bs)
    ∙ (λ i. h.calls f a n m i || items-named ss rs hs f a (n + s.rules.stmt.size) (m + s.rules.stmt.size) i)
    ∙ sym (list_any-append f (r.stmt.calls (plain a)) (calls_in_stmts (bodies rs) (plain a)))

items-placeless : (ss : List ItemSites) (rs : List ItemRules) → Each ItemNamed ss rs → (n m : ℕ) (o : Scope) → inside (blocks_in (bodies rs) n) o ≡ inside (blocks_in (bodies rs) m) o
items-placeless _ _ none n m o = refl
items-placeless _ _ (more {y = r} {xs = ss} {ys = rs} h hs) n m o =
    let size = r.stmt.size in
    inside-append (r.stmt.blocks n) (blocks_in (bodies rs) (n + size)) o
    ∙ ap (inside (r.stmt.blocks n)) (items-placeless ss rs hs (n + size) (m + size) o)
    ∙ h.placeless n m (inside (blocks_in (bodies rs) (m + size)) o)
    ∙ sym (inside-append (r.stmt.blocks m) (blocks_in (bodies rs) (m + size)) o)

case-named : (kind : VCaseKind) (on : VExpr) (ss : List ItemSites) (rs : List ItemRules) → Each ItemNamed ss rs → StmtNamed (stmt_sites (VStmt-F.Case kind on ss)) (stmt_rules (VStmt-F.Case kind on rs))
case-named kind on ss rs hs = record {
  same = ap (λ (qs : List ItemRules). stmt_rules (VStmt-F.Case kind on qs)) (items-same ss rs hs);
  calls = λ f a at.
      let here = at + (3 + (rules_of on).size) in
      two-lists f ((sites_of on).calls a (at + 2)) (values_calls ss a here ++ bodies_calls ss a here) ((rules_of on).calls (plain a)) (calls_in_stmts (bodies rs) (plain a)) (expr-calls on f a (at + 2))
      (list_any-append (λ (x : Site). f x.name) (values_calls ss a here) (bodies_calls ss a here) ∙ items-named ss rs hs f a here here);
  placeless = λ n m o. items-placeless ss rs hs (n + (3 + (rules_of on).size)) (m + (3 + (rules_of on).size)) o;
}

assign-named : (target : VLval) (right : VExpr) (later : Bool) → StmtNamed (stmt_sites (VStmt-F.Assign target right later)) (stmt_rules (VStmt-F.Assign target right later))
assign-named target right later = record {
  same = refl;
  calls = λ f a at.
      two-lists f ((target_sites target).calls a at) ((sites_of right).calls a (at + suc (target_of target).size)) ((target_of target).calls (plain a)) ((rules_of right).calls (plain a))
      (target-calls target f a at) (expr-calls right f a (at + suc (target_of target).size));
  placeless = λ n m o. refl;
}

-- induction
both : {s t : StmtSites} {r q : StmtRules} → s ≡ t → r ≡ q → StmtNamed t q → StmtNamed s r
both {s} {t} {r} {q} e f h = subst (λ (x : StmtSites). StmtNamed x r) (sym e) (subst (λ (y : StmtRules). StmtNamed t y) (sym f) h)

item-both : {s t : ItemSites} {r q : ItemRules} → s ≡ t → r ≡ q → ItemNamed t q → ItemNamed s r
item-both {s} {t} {r} {q} e f h = subst (λ (x : ItemSites). ItemNamed x r) (sym e) (subst (λ (y : ItemRules). ItemNamed t y) (sym f) h)

abbrev P : VBranch → Type 0
P x = StmtNamed (branch_sites_of x) (rules_of_branch x)

abbrev case_of : VCaseItem → ItemRules
case_of = fold-VCaseItem StmtRules ItemRules StmtRules branch_rules item_rules stmt_rules

abbrev Q : VCaseItem → Type 0
Q x = ItemNamed (case_sites_of x) (case_of x)

abbrev Z : VStmt → Type 0
Z x = StmtNamed (stmt_sites_of x) (rules_of_stmt x)

each-stmt : (xs : List VStmt) → I.Each Z xs → Each StmtNamed (map stmt_sites_of xs) (map rules_of_stmt xs)
each-stmt [] hs = none
each-stmt (x ∷ xs) hs = more hs.0 (each-stmt xs hs.1)

each-item : (xs : List VCaseItem) → I.Each Q xs → Each ItemNamed (map case_sites_of xs) (map case_of xs)
each-item [] hs = none
each-item (x ∷ xs) hs = more hs.0 (each-item xs hs.1)

if-step : (on : VExpr) (x : VBranch) (other : Option VBranch) → P x → I.Perhaps P other → Z (T.If on x other)
if-step on x None h k =
    both (at-if branch_sites item_sites stmt_sites on x) (at-if branch_rules item_rules stmt_rules on x) (if-named on (branch_sites_of x) (rules_of_branch x) None None h tt)
if-step on x (Some y) h k =
    both (at-else branch_sites item_sites stmt_sites on x y) (at-else branch_rules item_rules stmt_rules on x y)
    (if-named on (branch_sites_of x) (rules_of_branch x) (Some (branch_sites_of y)) (Some (rules_of_branch y)) h k)

empty-named : StmtNamed (branch_sites VBranch-F.Empty) (branch_rules VBranch-F.Empty)
empty-named = record { same = refl; calls = λ f a at. refl; placeless = λ n m o. refl }

steps : I.StmtSteps P Q Z
steps = record {
  branch-statement = λ x h. both (at-statement branch_sites item_sites stmt_sites x) (at-statement branch_rules item_rules stmt_rules x) h;
  branch-empty = both (at-empty branch_sites item_sites stmt_sites) (at-empty branch_rules item_rules stmt_rules) empty-named;
  case-item = λ xs x h. item-both (at-item branch_sites item_sites stmt_sites xs x) (at-item branch_rules item_rules stmt_rules xs x) (value-item xs (branch_sites_of x) (rules_of_branch x) h);
  case-default = λ x h. item-both (at-default branch_sites item_sites stmt_sites x) (at-default branch_rules item_rules stmt_rules x) (default-item (branch_sites_of x) (rules_of_branch x) h);
  stmt-block = λ l xs hs.
      both (at-block branch_sites item_sites stmt_sites l xs) (at-block branch_rules item_rules stmt_rules l xs) (block-named l (map stmt_sites_of xs) (map rules_of_stmt xs) (each-stmt xs hs));
  stmt-if = if-step;
  stmt-case = λ kind on xs hs.
      both (at-case branch_sites item_sites stmt_sites kind on xs) (at-case branch_rules item_rules stmt_rules kind on xs) (case-named kind on (map case_sites_of xs) (map case_of xs) (each-item xs hs));
  stmt-assign = λ t x later. both (at-assign branch_sites item_sites stmt_sites t x later) (at-assign branch_rules item_rules stmt_rules t x later) (assign-named t x later);
}

pub stmt-named : (x : VStmt) → StmtNamed (stmt_sites_of x) (rules_of_stmt x)
stmt-named = I.ind-stmt P Q Z steps
