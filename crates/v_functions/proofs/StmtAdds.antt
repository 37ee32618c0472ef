-- What statements and functions add to a walk: their calls.
use Rattle.std.proofs.Common.{◌≡◌, ℕ, suc, ◌+◌, Bool, List, [], ◌∷◌, ◌++◌, map, slice_get, Option, Some, None, refl, sym, ap, ◌∙◌, subst, arith}
use Rattle.call_circles.specs.declared.calls.Call.{Call}
use Rattle.call_circles.specs.Calls.{first_of}
use Rattle.v_tree.specs.Scopes.{Scope, inside}
use Rattle.v_tree.specs.ExprRules.{Around, rules_of, listed_size}
use Rattle.v_tree.specs.StmtRules.{StmtRules, target_of, else_rules, rules_of_stmt, locals_from, locals_size, range_size, blocks_in, stmts_size, bodies}
use Rattle.v_tree.specs.Rules.{function_names, function_size}
use Rattle.v_tree.specs.declared.expressions.VExpr.{VExpr}
use Rattle.v_tree.specs.declared.items.VFunction.{VFunction}
use Rattle.v_tree.specs.declared.items.VItem.{VItem}
use Rattle.v_tree.specs.declared.items.VItem.TheVariants as I
use Rattle.v_tree.specs.declared.statements.VBranch.{VBranch}
use Rattle.v_tree.specs.declared.statements.VCaseItem.{VCaseItem, VCaseItem-F}
use Rattle.v_tree.specs.declared.statements.VCaseKind.{VCaseKind}
use Rattle.v_tree.specs.declared.statements.VLabel.{VLabel}
use Rattle.v_tree.specs.declared.statements.VLval.{VLval}
use Rattle.v_tree.specs.declared.statements.VStmt.{VStmt, VStmt-F}
use Rattle.v_tree.specs.declared.statements.VStmt.TheVariants as T
use Rattle.v_tree.proofs.Induction as Ind
use Rattle.v_scopes.specs.Env.{Env}
use Rattle.v_expr_rules.specs.Seen.{plus, earlier}
use Rattle.v_expr_rules.specs.Least.{cap}
use Rattle.v_expr_rules.proofs.Operands.{sum-of}
use Rattle.v_expr_rules.proofs.Listed.{Each}
use Rattle.v_expr_rules.proofs.Listed.Each.{none, more}
use Rattle.v_stmt_rules.specs.Labels.{Adds as Names}
use Rattle.v_stmt_rules.specs.Stmts.{block_given, stmt_told}
use Rattle.v_stmt_rules.proofs.Declared.{things, weave}
use Rattle.v_stmt_rules.proofs.StmtsExact.{StmtExact, same-around}
use Rattle.v_stmt_rules.proofs.CasesExact.{stmt-exact}
use Rattle.v_item_rules.specs.Signals.{range_tokens}
use Rattle.v_item_rules.specs.Functions.{function_given}
use Rattle.v_item_rules.proofs.FunctionsExact.{things-function}
use Rattle.v_rules.specs.Tables.{Numbers}
use Rattle.v_call_sites.specs.Sites.{Site, listed_sites, calls_from, sites_of}
use Rattle.v_call_sites.specs.StmtSites.{target_sites, StmtSites, ItemSites, stmts_of, stmts_calls, values_calls, bodies_calls, branch_sites, item_sites, stmt_sites, else_of, else_calls, items_of, stmt_sites_of, branch_sites_of, case_sites_of}
use Rattle.v_call_sites.proofs.Expressions.{expr-splits}
use Rattle.v_call_sites.proofs.Targets.{target-splits}
use Rattle.v_call_sites.proofs.Statements.{stmt-splits}
use Rattle.v_call_sites.proofs.Levels.{at-statement, at-empty, at-item, at-default, at-block, at-if, at-else, at-case, at-assign}
use Rattle.v_functions.specs.declared.walk.Walk.{Walk}
use Rattle.v_functions.specs.Walks.{skipped, expr_walked, each_walked, StmtStep, walks_of, labels_of, else_walked, block_step, branch_step, case_step, stmt_step, branch_walked, case_walked, stmt_walked, function_walked}
use Rattle.v_functions.proofs.Labels.{labels_same}
use Rattle.v_functions.proofs.Walking.{found_in, found-append, Passes, Adds, Skips, skip, stay, one, skips-then, skip-locals, nothing, then-adds, behind, ahead, as-found, as-listed}
use Rattle.v_functions.proofs.ExprAdds.{expr-adds, exprs-adds, list-adds, target-adds}

pub record StmtWalks (ns : Numbers) (n : ℕ) (t : StmtStep) (s : StmtSites) : Type 0 where
  pub each : (env : Env) (items : List VItem) → Adds ns n (t.walk ns env) s.rules.size (s.calls (things items env))

-- an item of a `case`: its values, and what it governs
record CaseWalks (ns : Numbers) (n : ℕ) (t : StmtStep) (s : ItemSites) : Type 0 where
  each : (env : Env) (items : List VItem) → Adds ns n (t.walk ns env) s.rules.stmt.size (λ k. s.values (things items env) k ++ s.calls (things items env) k)

two-skip : Skips (skipped 2) 2
two-skip = skip 2 2 refl

three-skip : Skips (skipped 3) 3
three-skip = skip 3 3 refl

next : (k : ℕ) → k + 1 ≡ suc k
next k = omega arith

listed-same : (xs : List VExpr) → listed_sites (map sites_of xs) ≡ listed_size (map rules_of xs)
listed-same [] = refl
listed-same (x ∷ []) = (expr-splits x).size
listed-same (x ∷ y ∷ xs) = λ i. (expr-splits x).size i + suc (listed-same (y ∷ xs) i)

stmts-same : (xs : List VStmt) → stmts_of (map stmt_sites_of xs) ≡ map rules_of_stmt xs
stmts-same [] = refl
stmts-same (x ∷ xs) = λ i. (stmt-splits x).same i ∷ stmts-same xs i

stmts-exact : (xs : List VStmt) → Each StmtExact (map stmt_told xs) (map rules_of_stmt xs)
stmts-exact [] = none
stmts-exact (x ∷ xs) = more (stmt-exact x) (stmts-exact xs)

-- what names stand for in a named block
block-things : (l : VLabel) (xs : List VStmt) (env : Env) (items : List VItem) (from at : ℕ)
    → things items (block_given l.locals (labels_of (map stmt_walked xs)) env) ≡ inside (locals_from l.locals from ++ blocks_in (stmts_of (map stmt_sites_of xs)) at) (things items env)
block-things l xs env items from at =
    ap (λ (ls : List Names). things items (block_given l.locals ls env)) (labels_same xs)
    ∙ ap (λ (a : Around). a.scope) (same-around items (map stmt_told xs) (map rules_of_stmt xs) l.locals from at env (stmts-exact xs))
    ∙ ap (λ (rs : List StmtRules). inside (locals_from l.locals from ++ blocks_in rs at) (things items env)) (sym (stmts-same xs))

module _ (ns : Numbers) (n : ℕ) where
  stmts-adds : (ts : List StmtStep) (ss : List StmtSites) → Each (StmtWalks ns n) ts ss → (env : Env) (items : List VItem)
      → Adds ns n (each_walked (walks_of ts) ns env) (stmts_size (stmts_of ss)) (stmts_calls ss (things items env))
  stmts-adds _ _ none env items = nothing ns n stay
  stmts-adds _ _ (more {x = t} {y = s} {xs = ts} {ys = ss} h hs) env items = then-adds ns n (h.each env items) (stmts-adds ts ss hs env items)

  four : (x : Call → Bool) (a b c d : List Site) → found_in ns n x ((a ++ b) ++ (c ++ d)) ≡ found_in ns n x ((a ++ c) ++ (b ++ d))
  four x a b c d =
      let f : List Site → Option ℕ = found_in ns n x in
      found-append ns n x (a ++ b) (c ++ d)
      ∙ (λ i. earlier (found-append ns n x a b i) (found-append ns n x c d i))
      ∙ weave (f a) (f b) (f c) (f d)
      ∙ (λ i. earlier (sym (found-append ns n x a c) i) (sym (found-append ns n x b d) i))
      ∙ sym (found-append ns n x (a ++ c) (b ++ d))

  cases-adds : (ts : List StmtStep) (ss : List ItemSites) → Each (CaseWalks ns n) ts ss → (env : Env) (items : List VItem)
      → Adds ns n (each_walked (walks_of ts) ns env) (stmts_size (bodies (items_of ss))) (λ k. values_calls ss (things items env) k ++ bodies_calls ss (things items env) k)
  cases-adds _ _ none env items = nothing ns n stay
  cases-adds _ _ (more {x = t} {y = s} {xs = ts} {ys = ss} h hs) env items =
      let o = things items env in
      as-found ns n (then-adds ns n (h.each env items) (cases-adds ts ss hs env items)) refl
      (λ x k. four x (s.values o k) (s.calls o k) (values_calls ss o (k + s.rules.stmt.size)) (bodies_calls ss o (k + s.rules.stmt.size)))

  -- blocks
  plain-walks : (ts : List StmtStep) (ss : List StmtSites) → Each (StmtWalks ns n) ts ss → StmtWalks ns n (block_step None ts) (stmt_sites (VStmt-F.Block None ss))
  plain-walks ts ss hs = record {
    each = λ env items.
        as-listed ns n (ahead ns n (behind ns n one (stmts-adds ts ss hs env items)) one) (size (stmts_size (stmts_of ss)))
        (λ k. ap (stmts_calls ss (things items env)) (next k));
  }
    where
      size : (a : ℕ) → (1 + a) + 1 ≡ 2 + a
      size a = omega arith

  named-walks : (l : VLabel) (xs : List VStmt) → Each (StmtWalks ns n) (map stmt_walked xs) (map stmt_sites_of xs)
      → StmtWalks ns n (block_step (Some l) (map stmt_walked xs)) (stmt_sites (VStmt-F.Block (Some l) (map stmt_sites_of xs)))
  named-walks l xs hs = record {
    each = λ env items.
        let ss = map stmt_sites_of xs in
        let inner = block_given l.locals (labels_of (map stmt_walked xs)) env in
        as-listed ns n (ahead ns n (behind ns n (skips-then three-skip (skip-locals l.locals)) (stmts-adds (map stmt_walked xs) ss hs inner items)) one)
        (size (locals_size l.locals) (stmts_size (stmts_of ss)))
        (λ k. ap (λ (o : Scope). stmts_calls ss o (k + (3 + locals_size l.locals))) (block-things l xs env items (k + 3) (k + (3 + locals_size l.locals))));
  }
    where
      size : (a b : ℕ) → ((3 + a) + b) + 1 ≡ 4 + (a + b)
      size a b = omega arith

  block-walks : (l : Option VLabel) (xs : List VStmt) → Each (StmtWalks ns n) (map stmt_walked xs) (map stmt_sites_of xs)
      → StmtWalks ns n (block_step l (map stmt_walked xs)) (stmt_sites (VStmt-F.Block l (map stmt_sites_of xs)))
  block-walks None xs hs = plain-walks (map stmt_walked xs) (map stmt_sites_of xs) hs
  block-walks (Some l) xs hs = named-walks l xs hs

  -- `if` and `else`
  abbrev ElseWalks : Option StmtStep → Option StmtSites → Type 0
  ElseWalks None None = Unit {0}
  ElseWalks None (Some s) = ⊥
  ElseWalks (Some t) None = ⊥
  ElseWalks (Some t) (Some s) = StmtWalks ns n t s

  else-adds : (t : Option StmtStep) (s : Option StmtSites) → ElseWalks t s → (env : Env) (items : List VItem)
      → Adds ns n (else_walked t ns env) (else_rules (else_of s)).size (else_calls s (things items env))
  else-adds None None h env items = nothing ns n stay
  else-adds None (Some s) h env items = absurd h
  else-adds (Some t) None h env items = absurd h
  else-adds (Some t) (Some s) h env items = as-listed ns n (behind ns n one (h.each env items)) (size s.rules.size) (λ k. ap (s.calls (things items env)) (next k))
    where
      size : (a : ℕ) → 1 + a ≡ suc a
      size a = omega arith

  if-walks : (on : VExpr) (t : StmtStep) (s : StmtSites) (o : Option StmtStep) (q : Option StmtSites) → StmtWalks ns n t s → ElseWalks o q
      → StmtWalks ns n (stmt_step (VStmt-F.If on t o)) (stmt_sites (VStmt-F.If on s q))
  if-walks on t s o q h l = record {
    each = λ env items.
        let c = things items env in
        let r = rules_of on in
        let same = (expr-splits on).size in
        let other = (else_rules (else_of q)).size in
        as-listed ns n (then-adds ns n (behind ns n two-skip ((expr-adds ns n on).each env items)) (then-adds ns n (behind ns n one (h.each env items)) (else-adds o q l env items)))
        (ap (λ m. (2 + m) + ((1 + s.rules.size) + other)) same ∙ size r.size s.rules.size other)
        (λ k.
        ap (λ m. (sites_of on).calls c (k + 2) ++ (s.calls c ((k + (2 + m)) + 1) ++ else_calls q c ((k + (2 + m)) + (1 + s.rules.size)))) same
        ∙ (λ i. (sites_of on).calls c (k + 2) ++ (s.calls c (second k r.size i) ++ else_calls q c (third k r.size s.rules.size i))));
  }
    where
      size : (a b c : ℕ) → (2 + a) + ((1 + b) + c) ≡ 3 + (a + (b + c))
      size a b c = omega arith

      second : (k a : ℕ) → (k + (2 + a)) + 1 ≡ k + (3 + a)
      second k a = omega arith

      third : (k a b : ℕ) → (k + (2 + a)) + (1 + b) ≡ k + (3 + (a + b))
      third k a b = omega arith

  -- `case`
  case-walks : (kind : VCaseKind) (on : VExpr) (ts : List StmtStep) (ss : List ItemSites) → Each (CaseWalks ns n) ts ss
      → StmtWalks ns n (stmt_step (VStmt-F.Case kind on ts)) (stmt_sites (VStmt-F.Case kind on ss))
  case-walks kind on ts ss hs = record {
    each = λ env items.
        let c = things items env in
        let r = rules_of on in
        let same = (expr-splits on).size in
        let body = stmts_size (bodies (items_of ss)) in
        as-listed ns n (ahead ns n (then-adds ns n (behind ns n two-skip ((expr-adds ns n on).each env items)) (behind ns n one (cases-adds ts ss hs env items))) one)
        (ap (λ m. ((2 + m) + (1 + body)) + 1) same ∙ size r.size body)
        (λ k.
        ap (λ m. (sites_of on).calls c (k + 2) ++ (values_calls ss c ((k + (2 + m)) + 1) ++ bodies_calls ss c ((k + (2 + m)) + 1))) same
        ∙ ap (λ m. (sites_of on).calls c (k + 2) ++ (values_calls ss c m ++ bodies_calls ss c m)) (second k r.size));
  }
    where
      size : (a b : ℕ) → ((2 + a) + (1 + b)) + 1 ≡ 4 + (a + b)
      size a b = omega arith

      second : (k a : ℕ) → (k + (2 + a)) + 1 ≡ k + (3 + a)
      second k a = omega arith

  item-walks : (xs : List VExpr) (t : StmtStep) (s : StmtSites) → StmtWalks ns n t s → CaseWalks ns n (case_step (VCaseItem-F.Item xs t)) (item_sites (VCaseItem-F.Item xs s))
  item-walks xs t s h = record {
    each = λ env items.
        let c = things items env in
        let same = listed-same xs in
        let here : ℕ → List Site = calls_from (map sites_of xs) c in
        as-listed ns n (then-adds ns n (list-adds ns n (map expr_walked xs) (map sites_of xs) (exprs-adds ns n xs) env items) (behind ns n one (h.each env items)))
        (ap (λ m. m + (1 + s.rules.size)) same ∙ size (listed_size (map rules_of xs)) s.rules.size)
        (λ k. ap (λ m. here k ++ s.calls c ((k + m) + 1)) same ∙ ap (λ m. here k ++ s.calls c m) (second k (listed_size (map rules_of xs))));
  }
    where
      size : (a b : ℕ) → a + (1 + b) ≡ a + suc b
      size a b = omega arith

      second : (k a : ℕ) → (k + a) + 1 ≡ k + suc a
      second k a = omega arith

  default-walks : (t : StmtStep) (s : StmtSites) → StmtWalks ns n t s → CaseWalks ns n (case_step (VCaseItem-F.Default t)) (item_sites (VCaseItem-F.Default s))
  default-walks t s h = record { each = λ env items. behind ns n two-skip (h.each env items) }

  assign-walks : (target : VLval) (right : VExpr) (later : Bool) → StmtWalks ns n (stmt_step (VStmt-F.Assign target right later)) (stmt_sites (VStmt-F.Assign target right later))
  assign-walks target right later = record {
    each = λ env items.
        let c = things items env in
        let to = (target_sites target).calls c in
        let given = (sites_of right).calls c in
        let same = (target-splits target).size in
        as-listed ns n (ahead ns n (then-adds ns n ((target-adds ns n target).each env items) (behind ns n one ((expr-adds ns n right).each env items))) one)
        ((λ i. (same i + (1 + (expr-splits right).size i)) + 1) ∙ size (target_of target).size (rules_of right).size)
        (λ k. ap (λ m. to k ++ given ((k + m) + 1)) same ∙ ap (λ m. to k ++ given m) (second k (target_of target).size));
  }
    where
      size : (a b : ℕ) → (a + (1 + b)) + 1 ≡ a + (2 + b)
      size a b = omega arith

      second : (k a : ℕ) → (k + a) + 1 ≡ k + suc a
      second k a = omega arith

  -- induction
  both : {t u : StmtStep} {s r : StmtSites} → t ≡ u → s ≡ r → StmtWalks ns n u r → StmtWalks ns n t s
  both {t} {u} {s} {r} e d h = subst (λ (x : StmtStep). StmtWalks ns n x s) (sym e) (subst (λ (y : StmtSites). StmtWalks ns n u y) (sym d) h)

  case-both : {t u : StmtStep} {s r : ItemSites} → t ≡ u → s ≡ r → CaseWalks ns n u r → CaseWalks ns n t s
  case-both {t} {u} {s} {r} e d h = subst (λ (x : StmtStep). CaseWalks ns n x s) (sym e) (subst (λ (y : ItemSites). CaseWalks ns n u y) (sym d) h)

  abbrev P : VBranch → Type 0
  P x = StmtWalks ns n (branch_walked x) (branch_sites_of x)

  abbrev Q : VCaseItem → Type 0
  Q x = CaseWalks ns n (case_walked x) (case_sites_of x)

  abbrev R : VStmt → Type 0
  R x = StmtWalks ns n (stmt_walked x) (stmt_sites_of x)

  each-stmt : (xs : List VStmt) → Ind.Each R xs → Each (StmtWalks ns n) (map stmt_walked xs) (map stmt_sites_of xs)
  each-stmt [] hs = none
  each-stmt (x ∷ xs) hs = more hs.0 (each-stmt xs hs.1)

  each-case : (xs : List VCaseItem) → Ind.Each Q xs → Each (CaseWalks ns n) (map case_walked xs) (map case_sites_of xs)
  each-case [] hs = none
  each-case (x ∷ xs) hs = more hs.0 (each-case xs hs.1)

  if-step : (on : VExpr) (x : VBranch) (other : Option VBranch) → P x → Ind.Perhaps P other → R (T.If on x other)
  if-step on x None h k =
      both (at-if branch_step case_step stmt_step on x) (at-if branch_sites item_sites stmt_sites on x) (if-walks on (branch_walked x) (branch_sites_of x) None None h tt)
  if-step on x (Some y) h k =
      both (at-else branch_step case_step stmt_step on x y) (at-else branch_sites item_sites stmt_sites on x y)
      (if-walks on (branch_walked x) (branch_sites_of x) (Some (branch_walked y)) (Some (branch_sites_of y)) h k)

  steps : Ind.StmtSteps P Q R
  steps = record {
    branch-statement = λ x h. both (at-statement branch_step case_step stmt_step x) (at-statement branch_sites item_sites stmt_sites x) h;
    branch-empty = both (at-empty branch_step case_step stmt_step) (at-empty branch_sites item_sites stmt_sites) (record { each = λ env items. nothing ns n one });
    case-item = λ xs x h.
        case-both (at-item branch_step case_step stmt_step xs x) (at-item branch_sites item_sites stmt_sites xs x) (item-walks xs (branch_walked x) (branch_sites_of x) h);
    case-default = λ x h.
        case-both (at-default branch_step case_step stmt_step x) (at-default branch_sites item_sites stmt_sites x) (default-walks (branch_walked x) (branch_sites_of x) h);
    stmt-block = λ l xs hs. both (at-block branch_step case_step stmt_step l xs) (at-block branch_sites item_sites stmt_sites l xs) (block-walks l xs (each-stmt xs hs));
    stmt-if = if-step;
    stmt-case = λ kind on xs hs.
        both (at-case branch_step case_step stmt_step kind on xs) (at-case branch_sites item_sites stmt_sites kind on xs)
        (case-walks kind on (map case_walked xs) (map case_sites_of xs) (each-case xs hs));
    stmt-assign = λ t x later. both (at-assign branch_step case_step stmt_step t x later) (at-assign branch_sites item_sites stmt_sites t x later) (assign-walks t x later);
  }

  stmt-adds : (x : VStmt) → StmtWalks ns n (stmt_walked x) (stmt_sites_of x)
  stmt-adds = Ind.ind-stmt P Q R steps

-- where a function's body begins, and the calls in it
abbrev pub body_at : VFunction → ℕ → ℕ
body_at f at = at + (3 + (range_size f.range + (locals_size f.inputs + locals_size f.locals)))

abbrev pub function_sites : Scope → VFunction → ℕ → List Site
function_sites scope f at = (stmt_sites_of f.body).calls (inside (function_names f at) scope) (body_at f at)

range-cap : (r : Option ℕ) → range_tokens r ≡ cap (range_size r)
range-cap None = refl
range-cap (Some left) = refl

pub function-adds : (ns : Numbers) (n : ℕ) (f : VFunction) (env : Env) (items : List VItem) → slice_get items n ≡ Some (I.Function f) → (w : Walk) (k : ℕ) → w.at ≡ cap k
    → Passes ns n w (function_walked f n ns env w) (k + function_size f) (function_sites (things items env) f k)
function-adds ns n f env items e w k at =
    let inner = function_given f n env in
    let own = locals_size f.inputs + locals_size f.locals in
    let start : Walk = record { from = n; at = plus w.at (plus 3 (range_tokens f.range)); calls = w.calls } in
    let from = k + (3 + range_size f.range) in
    let begun : start.at ≡ cap from = sum-of w.at (plus 3 (range_tokens f.range)) k (3 + range_size f.range) at (sum-of 3 (range_tokens f.range) 3 (range_size f.range) refl (range-cap f.range)) in
    let p = (ahead ns n (behind ns n (skips-then (skip-locals f.inputs) (skip-locals f.locals)) ((stmt-adds ns n f.body).each inner items)) one).each start from refl begun in
    let s = stmt_sites_of f.body in
    let size : from + ((own + s.rules.size) + 1) ≡ k + function_size f =
    ap (λ (r : StmtRules). from + ((own + r.size) + 1)) (stmt-splits f.body).same ∙ whole k (range_size f.range) (locals_size f.inputs) (locals_size f.locals) (rules_of_stmt f.body).size in
    let place : from + own ≡ body_at f k = body k (range_size f.range) own in
    record {
      from = p.from;
      at = p.at ∙ ap cap size;
      calls = λ t.
          p.calls t
          ∙ (λ i. earlier (first_of t w.calls) (found_in ns n t (s.calls (things-function f n env items k e i) (place i))));
    }
  where
    whole : (k a b c d : ℕ) → (k + (3 + a)) + (((b + c) + d) + 1) ≡ k + (4 + (a + (b + (c + d))))
    whole k a b c d = omega arith

    body : (k a b : ℕ) → (k + (3 + a)) + b ≡ k + (3 + (a + b))
    body k a b = omega arith
