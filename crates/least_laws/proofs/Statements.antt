-- The tokens of the targets, statements and blocks that are read from a text ascend.
use Rattle.std.proofs.Common.{◌≡◌, ℕ, zero, suc, ◌+◌, ◌<◌, ◌≤◌, true, false, ◌==◌, List, [], ◌∷◌, ◌++◌, map, drop, Option, Some, None, refl, arith}
use Rattle.std.specs.Option.{option_map}
use Rattle.ll_engine.specs.declared.tree.Tree.{Tree}
use Rattle.sv_tree.specs.Heads as head
use Rattle.sv_tree.specs.declared.expressions.Expr.{Expr}
use Rattle.sv_tree.specs.declared.names.QualifiedName.{QualifiedName}
use Rattle.sv_tree.specs.declared.statements.BlockItem.{BlockItem}
use Rattle.sv_tree.specs.declared.statements.BlockItem.TheVariants as I
use Rattle.sv_tree.specs.declared.statements.CaseItem.{CaseItem}
use Rattle.sv_tree.specs.declared.statements.CaseItem.TheVariants as C
use Rattle.sv_tree.specs.declared.statements.Else.{Else}
use Rattle.sv_tree.specs.declared.statements.LoopStart.{LoopStart}
use Rattle.sv_tree.specs.declared.statements.LoopStep.{LoopStep}
use Rattle.sv_tree.specs.declared.statements.Lvalue.{Lvalue}
use Rattle.sv_tree.specs.declared.statements.Lvalue.TheVariants as V
use Rattle.sv_tree.specs.declared.statements.Stmt.{Stmt}
use Rattle.sv_tree.specs.declared.statements.Stmt.TheVariants as S
use Rattle.sv_tree.specs.declared.statements.UniquePriority.{UniquePriority}
use Rattle.sv_tree.specs.declared.types.TypeText.{TypeText}
use Rattle.sv_build.specs.declared.rows.TheConstants as R
use Rattle.sv_build.specs.declared.variables.VariableText.{VariableText}
use Rattle.sv_build.specs.Statements as X
use Rattle.sv_build.specs.Statements.{concatenated_within}
use Rattle.expr_build.specs.Nodes.{kids_of, kid, token, row_of, is_none}
use Rattle.expr_build.specs.Words.{qualified_of}
use Rattle.expr_build.specs.Expressions.{expr_of, nesting_limit, selects_of}
use Rattle.expr_build.specs.Types.{alone, scoped}
use Rattle.expr_type.specs.Placed.{Ascend}
use Rattle.order_laws.specs.Ordered.{in_row, if_there, name_tokens, expr_tokens, selects_tokens, type_tokens, lvalue_tokens, start_tokens, loop_step_tokens, stmt_tokens, block_item_tokens, case_item_tokens, else_tokens, items_tokens}
use Rattle.least_laws.proofs.Tests.{by-test}
use Rattle.least_laws.proofs.Spans.{Spans, AllSpan}
use Rattle.least_laws.proofs.StatementRows as G
use Rattle.least_laws.proofs.Levels.{as-tokens, lvalue-is, item-is, case-is, stmt-is, else-level}
use Rattle.least_laws.proofs.Lists as L
use Rattle.least_laws.proofs.Lists.{Ordered, append}
use Rattle.least_laws.proofs.Expressions.{name-ordered, expr-ordered, arguments-ordered, exprs-ordered, selects-ordered, slice-size-ordered}
use Rattle.least_laws.proofs.Types.{declarators-ordered, keyword-ordered, named-ordered, aggregate-ordered}
use Rattle.least_laws.proofs.Declarations.{variables_tokens, parameters-ordered, variables-ordered, variable-text-ordered}

-- a statement with a part that may be left out
if-form : (lo hi : ℕ) (promise : Option UniquePriority) (keyword opening : ℕ) (test : Expr) (closing : ℕ) (body : Stmt) (o : Option Else)
    → Ascend lo hi (expr_tokens test ++ (stmt_tokens body ++ if_there (option_map else_tokens o))) → Ascend lo hi (stmt_tokens (S.If promise keyword opening test closing body o))
if-form lo hi promise keyword opening test closing body None a = stmt-is lo hi _ (S.rolls-If promise keyword opening test closing body None) a
if-form lo hi promise keyword opening test closing body (Some e) a = stmt-is lo hi _ (S.rolls-If promise keyword opening test closing body (Some e)) a

module _ (n : ℕ) where
  expr-at : {t : Tree} {at to lo hi : ℕ} → Spans head.expression n at t to → lo ≤ at → to ≤ hi → Ascend lo hi (expr_tokens (expr_of t))
  expr-at {t} {at} {to} {lo} {hi} s a b = expr-ordered n t at to lo hi s a b

  selects-at : {t : Tree} {at to lo hi : ℕ} → Spans head.selects n at t to → lo ≤ at → to ≤ hi → Ascend lo hi (selects_tokens (selects_of expr_of t))
  selects-at {t} {at} {to} {lo} {hi} s a b = selects-ordered n expr_of (expr-ordered n) t at to lo hi s a b

  -- targets
  name-lvalue : (name : ℕ) (t : Tree) (at to lo hi : ℕ) → Spans head.selects n at t to → lo ≤ name → name < at → to ≤ hi → Ascend lo hi (lvalue_tokens (X.name_lvalue name t))
  name-lvalue name t at to lo hi s a c b = let d = s.rise in lvalue-is _ _ _ (V.rolls-Name _ _) (a, omega arith, selects-at s (omega arith) b)

  module _ (inner : Tree → Lvalue) (ok : Ordered head.lvalue_concatenation n lvalue_tokens inner) where
    lvalue-with : Ordered head.variable_lvalue n lvalue_tokens (X.lvalue_with inner)
    lvalue-with t at to lo hi s a b =
        by-test (λ (l : Lvalue). Ascend lo hi (lvalue_tokens l)) (row_of t == R.NAME_LVALUE) _ _
        (λ e. let f = G.name-lvalue s e in name-lvalue (token 0 t) (kid 1 t) (suc at) f.2.0 lo hi f.2.2 (omega arith) (omega arith) (omega arith))
        (λ e. let f = G.other-lvalue s (e, tt) in ok (kid 0 t) at f.0 lo hi f.2 a (omega arith))

    lvalues-ordered : (t : Tree) (at to lo hi : ℕ) → Spans head.variable_lvalues n at t to → lo ≤ at → to ≤ hi → Ascend lo hi (in_row (map lvalue_tokens (X.lvalues_of inner t)))
    lvalues-ordered t at to lo hi s a b =
        L.items-if head.variable_lvalue n lvalue_tokens (X.lvalue_with inner) lvalue-with head.next_lvalue (λ x y u r. G.next-lvalue r) t at to lo hi (λ e. G.lvalues s) a b

    concatenated-from : (opening : ℕ) (t : Tree) (at to lo hi : ℕ) → Spans head.lvalue_concatenation_rest n at t to → lo ≤ opening → opening < at → to ≤ hi
        → Ascend lo hi (lvalue_tokens (X.concatenated_from inner opening t))
    concatenated-from opening t at to lo hi s a c b =
        by-test (λ (l : Lvalue). Ascend lo hi (lvalue_tokens l)) (row_of t == R.PLAIN_LVALUES) _ _
        (λ e.
        let f = G.plain-lvalues s e in
        lvalue-is _ _ _ (V.rolls-Concatenation _ _ _) (a, omega arith, lvalues-ordered (kid 0 t) at f.0 (suc opening) hi f.2 (omega arith) (omega arith)))
        (λ e.
        let f = G.stream-lvalues s (e, tt) in
        let z = f.3 in
        let v = z.3.2 in
        lvalue-is _ _ _ (V.rolls-Stream _ _ _ _ _ _ _ _) (
          a,
          omega arith,
          append _ _ z.0 (omega arith) (omega arith) (slice-size-ordered n expr_of (expr-ordered n) (kid 1 t) f.0 z.0 (suc opening) z.0 z.2 (omega arith) (omega arith))
              (lvalues-ordered (kid 3 t) (suc z.0) v.0 z.0 hi v.2 (omega arith) (omega arith)),
        ))

  -- calls
  call-ordered : (name : QualifiedName) (t : Tree) (semicolon at to lo hi : ℕ) → Ascend lo at (name_tokens name) → Spans head.call n at t to → lo ≤ at → to ≤ hi
      → Ascend lo hi (stmt_tokens (X.call_of name t semicolon))
  call-ordered name t semicolon at to lo hi w s a b =
      let f = G.call s in
      let v = f.2 in
      stmt-is _ _ _ (S.rolls-Call _ _ _ _ _)
      (append _ _ at (omega arith) (omega arith) w (arguments-ordered n expr_of (expr-ordered n) (kid 1 t) (suc at) v.0 at hi v.2 (omega arith) (omega arith)))

-- concatenations, however deep
concatenated-within : (depth n : ℕ) → nesting_limit ≤ n + depth → Ordered head.lvalue_concatenation n lvalue_tokens (concatenated_within depth)
unfolding concatenated_within
concatenated-within zero n d t at to lo hi s a b = let l = G.concatenation-limit s in absurd (omega arith)
concatenated-within (suc depth) n d t at to lo hi s a b =
    let f = G.lvalue-concatenation s in
    concatenated-from (suc n) (concatenated_within depth) (concatenated-within depth (suc n) (omega arith)) (token 0 t) (kid 1 t) (suc at) f.2.0 lo hi f.2.2 (omega arith) (omega arith) (omega arith)

concatenated-ordered : (n : ℕ) → Ordered head.lvalue_concatenation n lvalue_tokens X.concatenated_of
concatenated-ordered n = concatenated-within nesting_limit n (omega arith)

pub lvalue-ordered : (n : ℕ) → Ordered head.variable_lvalue n lvalue_tokens X.lvalue_of
lvalue-ordered n = lvalue-with n X.concatenated_of (concatenated-ordered n)

module _ (n : ℕ) where
  -- assignments
  assigned : (target : Lvalue) (operator value : Tree) (semicolon at mid to lo hi : ℕ) → Ascend lo at (lvalue_tokens target) → Spans head.assignment_operator n at operator mid
      → Spans head.expression n mid value to → lo ≤ at → to ≤ hi → Ascend lo hi (stmt_tokens (X.assigned target operator value semicolon))
  assigned target operator value semicolon at mid to lo hi w s r a b =
      let o = G.assignment-operator s in
      let c = r.rise in
      stmt-is _ _ _ (S.rolls-Assign _ _ _ _ _) (append _ _ at (omega arith) (omega arith) w (omega arith, omega arith, expr-at n r (omega arith) b))

  name-assigned : (name : ℕ) (selects t : Tree) (semicolon at mid to lo hi : ℕ) → Spans head.selects n at selects mid → Spans head.assignment_rest n mid t to → lo ≤ name → name < at → to ≤ hi
      → Ascend lo hi (stmt_tokens (X.name_assigned name selects t semicolon))
  name-assigned name selects t semicolon at mid to lo hi s r a c b =
      let d = s.rise in
      let e = r.rise in
      by-test (λ (x : Stmt). Ascend lo hi (stmt_tokens x)) (row_of t == R.ASSIGNMENT) _ _
      (λ q.
      let f = G.assignment r q in
      assigned _ (kid 0 t) (kid 1 t) semicolon mid f.0 f.3.0 lo hi (name-lvalue n name selects at mid lo mid s a c (omega arith)) f.2 f.3.2 (omega arith) (omega arith))
      (λ q.
      let f = G.postfix r (q, tt) in
      let o = G.step-operator f.2 in
      stmt-is _ _ _ (S.rolls-Postfix _ _ _ _ _)
      (a, omega arith, append _ _ mid (omega arith) (omega arith) (selects-at n s (omega arith) (omega arith)) (omega arith, omega arith, tt)))

  -- loops
  loop-start : (of : TypeText) (name equals : ℕ) (value : Tree) (at to lo hi : ℕ) → Ascend lo name (type_tokens of) → Spans head.expression n at value to → lo ≤ name → name < at → to ≤ hi
      → Ascend lo hi (start_tokens (X.loop_start of name equals value))
  loop-start of name equals value at to lo hi w s a c b =
      let d = s.rise in
      append _ _ name a (omega arith) w (omega arith, omega arith, expr-at n s (omega arith) b)

  start-ordered : Ordered head.for_initialization n start_tokens X.loop_start_of
  start-ordered t at to lo hi s a b =
      by-test (λ (x : LoopStart). Ascend lo hi (start_tokens x)) (row_of t == R.KEYWORD_LOOP) _ _
      (λ e.
      let f = G.keyword-loop s e in
      let d = f.3 in
      let v = d.3.2.2 in
      loop-start _ (token 2 t) (token 3 t) (kid 4 t) (suc (suc d.0)) v.0 lo hi (keyword-ordered n (kid 0 t) (kid 1 t) f.0 d.0 lo (token 2 t) d.2 (omega arith) (omega arith)) v.2 (omega arith)
      (omega arith) (omega arith))
      (λ e.
      let f = G.named-loop s (e, tt) in
      let q = f.2 in
      let d = q.3 in
      let v = d.3.2.2 in
      loop-start _ (token 3 t) (token 4 t) (kid 5 t) (suc (suc d.0)) v.0 lo hi
      (named-ordered n (qualified_of (token 0 t) (kid 1 t)) (kid 2 t) q.0 d.0 lo (token 3 t) (name-ordered n (token 0 t) (kid 1 t) (suc at) q.0 lo q.0 q.2 (omega arith) (omega arith) (omega arith)) d.2
      (omega arith) (omega arith)) v.2 (omega arith) (omega arith) (omega arith))

  name-step : (name : ℕ) (t : Tree) (at to lo hi : ℕ) → Spans head.assignment_rest n at t to → lo ≤ name → name < at → to ≤ hi → Ascend lo hi (loop_step_tokens (X.name_step name t))
  name-step name t at to lo hi s a c b =
      by-test (λ (x : LoopStep). Ascend lo hi (loop_step_tokens x)) (row_of t == R.ASSIGNMENT) _ _
      (λ e.
      let f = G.assignment s e in
      let o = G.assignment-operator f.2 in
      (a, omega arith, (omega arith, omega arith, expr-at n f.3.2 (omega arith) (omega arith))))
      (λ e.
      let f = G.postfix s (e, tt) in
      let o = G.step-operator f.2 in
      (a, omega arith, (omega arith, omega arith, tt)))

  pub step-ordered : Ordered head.for_step n loop_step_tokens X.loop_step_of
  step-ordered t at to lo hi s a b =
      by-test (λ (x : LoopStep). Ascend lo hi (loop_step_tokens x)) (row_of t == R.ASSIGNMENT_STEP) _ _
      (λ e. let f = G.name-step s e in name-step (token 0 t) (kid 1 t) (suc at) f.2.0 lo hi f.2.2 (omega arith) (omega arith) (omega arith))
      (λ e.
      let f = G.prefix-step s (e, tt) in
      let o = G.step-operator f.2 in
      (omega arith, omega arith, (omega arith, omega arith, tt)))

  -- a value that may be left out
  pub optional-ordered : (t : Tree) (at to lo hi : ℕ) → Spans head.optional_expression n at t to → lo ≤ at → to ≤ hi → Ascend lo hi (if_there (option_map expr_tokens (X.optional_expr_of t)))
  optional-ordered t at to lo hi s a b =
      L.if-read head.optional_expression n expr_tokens (λ some. expr_of (kid 0 some))
      (λ x from end low high r q c d. let f = G.some-expression r q tt in expr-ordered n (kid 0 x) from f.0 low high f.2 c (omega arith))
      t at to lo hi s a b

-- statements and items of blocks around these
module _ (n : ℕ) (inner : Tree → Stmt) (items : Tree → BlockItem) (ok : Ordered head.statement n stmt_tokens inner) (oks : Ordered head.block_item n block_item_tokens items) where
  else-from : Ordered head.else_statement n else_tokens (X.else_from inner)
  else-from t at to lo hi s a b =
      let f = G.else s in
      as-tokens lo hi (else-level (X.else_from inner t)) (ok (kid 1 t) (suc at) f.2.0 lo hi f.2.2 (omega arith) (omega arith))

  else-ordered : (ts : List Tree) (at to lo hi : ℕ) → AllSpan head.else_statement n at ts to → lo ≤ at → to ≤ hi → Ascend lo hi (if_there (option_map else_tokens (X.else_of inner ts)))
  else-ordered [] at to lo hi s a b = tt
  else-ordered (t ∷ ts) at to lo hi s a b = let k = L.all-rise head.else_statement n ts s.0 to s.3 in else-from t at s.0 lo hi s.2 a (omega arith)

  if-ordered : (promise : Option UniquePriority) (t : Tree) (at to lo hi : ℕ) → Spans head.conditional_statement n at t to → (row_of t == R.IF) ≡ true → lo ≤ at → to ≤ hi
      → Ascend lo hi (stmt_tokens (X.if_with inner promise (expr_of (kid 2 t)) t))
  if-ordered promise t at to lo hi s e a b =
      let f = G.if s e in
      let v = f.2.2 in
      let d = v.3.2 in
      let k = L.all-rise head.else_statement n (drop 5 (kids_of t)) d.0 to d.3 in
      if-form _ _ _ _ _ _ _ _ _
      (append _ _ v.0 (omega arith) (omega arith) (expr-at n v.2 (omega arith) (omega arith))
      (append _ _ d.0 (omega arith) (omega arith) (ok (kid 4 t) (suc v.0) d.0 v.0 d.0 d.2 (omega arith) (omega arith)) (else-ordered (drop 5 (kids_of t)) d.0 to d.0 hi d.3 (omega arith) b)))

  values-item : Ordered head.case_item n case_item_tokens (X.values_item inner)
  values-item t at to lo hi s a b =
      let f = G.case-item s in
      let d = f.3.2 in
      case-is _ _ _ (C.rolls-Values _ _ _)
      (append _ _ f.0 (omega arith) (omega arith) (exprs-ordered n expr_of (expr-ordered n) (kid 0 t) at f.0 lo f.0 f.2 a (omega arith))
      (ok (kid 2 t) (suc f.0) d.0 f.0 hi d.2 (omega arith) (omega arith)))

  default-item : Ordered head.case_default n case_item_tokens (X.default_item inner)
  default-item t at to lo hi s a b =
      let f = G.default-item s in
      let d = f.2.3 in
      case-is _ _ _ (C.rolls-Default _ _ _) (ok (kid 2 t) f.2.0 d.0 lo hi d.2 (omega arith) (omega arith))

  all-values : (ts : List Tree) (at to lo hi : ℕ) → AllSpan head.case_item n at ts to → lo ≤ at → to ≤ hi → Ascend lo hi (in_row (map case_item_tokens (map (X.values_item inner) ts)))
  all-values ts at to lo hi s a b = L.each head.case_item n case_item_tokens (X.values_item inner) values-item ts at to lo hi s a b

  -- a default, and items behind it
  from-default : (t : Tree) (ts : List Tree) (at to lo hi : ℕ) → (is_none ts ≡ false → L.Behind head.case_default head.case_item n at t ts to) → lo ≤ at → to ≤ hi
      → Ascend lo hi (in_row (map case_item_tokens (X.from_default inner ts)))
  from-default t [] at to lo hi s a b = tt
  from-default t (x ∷ xs) at to lo hi s a b =
      let f = s refl in
      let k = L.all-rise head.case_item n xs f.0 to f.3 in
      append _ _ f.0 (omega arith) (omega arith) (default-item x at f.0 lo f.0 f.2 a (omega arith)) (all-values xs f.0 to f.0 hi f.3 (omega arith) b)

  cases-ordered : (t : Tree) (at to lo hi : ℕ) → Spans head.case_body n at t to → lo ≤ at → to ≤ hi → Ascend lo hi (in_row (map case_item_tokens (X.case_items_of inner t)))
  cases-ordered t at to lo hi s a b =
      by-test (λ (xs : List CaseItem). Ascend lo hi (in_row (map case_item_tokens xs))) (row_of t == R.ITEMS_FIRST) _ _
      (λ e.
      let f = G.items-first s e in
      let m = f.3 in
      let d = m.3 in
      append _ _ f.0 (omega arith) (omega arith) (values-item (kid 0 t) at f.0 lo f.0 f.2 a (omega arith))
      (as-tokens f.0 hi (L.joined-row case_item_tokens (map (X.values_item inner) (kids_of (kid 1 t))) (X.from_default inner (kids_of (kid 2 t))))
      (append _ _ m.0 (omega arith) (omega arith) (all-values (kids_of (kid 1 t)) f.0 m.0 f.0 m.0 (G.case-items m.2) (omega arith) (omega arith))
      (from-default (kid 2 t) (kids_of (kid 2 t)) m.0 d.0 m.0 hi (λ q. G.case-default d.2 q tt) (omega arith) (omega arith)))))
      (λ e. from-default t (kids_of t) at to lo hi (λ q. G.default-first s (e, tt)) a b)

  case-ordered : (promise : Option UniquePriority) (t : Tree) (at to lo hi : ℕ) → Spans head.conditional_statement n at t to → (row_of t == R.IF) ≡ false → lo ≤ at → to ≤ hi
      → Ascend lo hi (stmt_tokens (X.case_with inner promise (expr_of (kid 2 t)) t))
  case-ordered promise t at to lo hi s e a b =
      let f = G.case s (e, tt) in
      let v = f.3.2 in
      let d = v.3.2 in
      stmt-is _ _ _ (S.rolls-Case _ _ _ _ _ _ _)
      (append _ _ v.0 (omega arith) (omega arith) (expr-at n v.2 (omega arith) (omega arith)) (cases-ordered (kid 4 t) (suc v.0) d.0 v.0 hi d.2 (omega arith) (omega arith)))

  conditional-ordered : (promise : Option UniquePriority) → Ordered head.conditional_statement n stmt_tokens (X.conditional_of inner promise)
  conditional-ordered promise t at to lo hi s a b =
      by-test (λ (x : Stmt). Ascend lo hi (stmt_tokens x)) (row_of t == R.IF) _ _ (λ e. if-ordered promise t at to lo hi s e a b) (λ e. case-ordered promise t at to lo hi s e a b)

  for-ordered : (t : Tree) (at to lo hi : ℕ) → Spans head.statement_item n at t to → (row_of t == R.FOR) ≡ true → lo ≤ at → to ≤ hi → Ascend lo hi (stmt_tokens (X.for_of inner t))
  for-ordered t at to lo hi s e a b =
      let f = G.for-loop s e in
      let x = f.2.2 in
      let y = x.3.2 in
      let z = y.3.2 in
      let d = z.3.2 in
      stmt-is _ _ _ (S.rolls-For _ _ _ _ _ _ _ _ _)
      (append _ _ x.0 (omega arith) (omega arith) (start-ordered n (kid 2 t) (suc (suc at)) x.0 lo x.0 x.2 (omega arith) (omega arith))
      (append _ _ y.0 (omega arith) (omega arith) (expr-at n y.2 (omega arith) (omega arith))
      (append _ _ z.0 (omega arith) (omega arith) (step-ordered n (kid 6 t) (suc y.0) z.0 y.0 z.0 z.2 (omega arith) (omega arith)) (ok (kid 8 t) (suc z.0) d.0 z.0 hi d.2 (omega arith) (omega arith)))))

  block-ordered : (t : Tree) (at to lo hi : ℕ) → Spans head.statement_item n at t to → (row_of t == R.BLOCK) ≡ true → lo ≤ at → to ≤ hi → Ascend lo hi (stmt_tokens (X.block_of items t))
  block-ordered t at to lo hi s e a b =
      let f = G.block s e in
      let x = f.2 in
      let y = x.3 in
      let z = y.3.2 in
      stmt-is _ _ _ (S.rolls-Block _ _ _ _ _)
      (L.each head.block_item n block_item_tokens items oks (kids_of (kid 2 t)) x.0 y.0 lo hi (G.block-items y.2) (omega arith) (omega arith))

  statement-item : Ordered head.statement_item n stmt_tokens (X.statement_item_of inner items)
  statement-item t at to lo hi s a b =
      by-test (λ (x : Stmt). Ascend lo hi (stmt_tokens x)) (row_of t == R.BLOCK) _ _ (λ e. block-ordered t at to lo hi s e a b)
      (λ e1.
      by-test (λ (x : Stmt). Ascend lo hi (stmt_tokens x)) (row_of t == R.CONDITIONAL) _ _
      (λ e. let f = G.conditional s e in conditional-ordered None (kid 0 t) at f.0 lo hi f.2 a (omega arith))
      (λ e2.
      by-test (λ (x : Stmt). Ascend lo hi (stmt_tokens x)) (row_of t == R.PROMISED_CONDITIONAL) _ _
      (λ e. let f = G.promised s e in conditional-ordered _ (kid 1 t) f.0 f.3.0 lo hi f.3.2 (omega arith) (omega arith))
      (λ e3.
      by-test (λ (x : Stmt). Ascend lo hi (stmt_tokens x)) (row_of t == R.FOR) _ _ (λ e. for-ordered t at to lo hi s e a b)
      (λ e4.
      by-test (λ (x : Stmt). Ascend lo hi (stmt_tokens x)) (row_of t == R.BREAK) _ _ (λ e. stmt-is _ _ _ (S.rolls-Break _ _) tt)
      (λ e5.
      by-test (λ (x : Stmt). Ascend lo hi (stmt_tokens x)) (row_of t == R.CONTINUE) _ _ (λ e. stmt-is _ _ _ (S.rolls-Continue _ _) tt)
      (λ e6.
      by-test (λ (x : Stmt). Ascend lo hi (stmt_tokens x)) (row_of t == R.RETURN) _ _
      (λ e. let f = G.return s e in stmt-is _ _ _ (S.rolls-Return _ _ _) (optional-ordered n (kid 1 t) (suc at) f.2.0 lo hi f.2.2 (omega arith) (omega arith)))
      (λ e7.
      by-test (λ (x : Stmt). Ascend lo hi (stmt_tokens x)) (row_of t == R.CONCATENATION_ASSIGNMENT) _ _
      (λ e.
      let f = G.concatenation-assigned s e in
      let o = f.3 in
      let v = o.3 in
      assigned n _ (kid 1 t) (kid 2 t) (token 3 t) f.0 o.0 v.0 lo hi (concatenated-ordered n (kid 0 t) at f.0 lo f.0 f.2 a (omega arith)) o.2 v.2 (omega arith) (omega arith))
      (λ e8.
      by-test (λ (x : Stmt). Ascend lo hi (stmt_tokens x)) (row_of t == R.PREFIX) _ _
      (λ e.
      let f = G.prefix s e in
      let o = G.step-operator f.2 in
      let v = f.3.2 in
      stmt-is _ _ _ (S.rolls-Prefix _ _ _ _ _) (omega arith, omega arith, (omega arith, omega arith, selects-at n v.2 (omega arith) (omega arith))))
      (λ e9. stmt-is _ _ _ (S.rolls-Empty _) tt)))))))))

  name-statement : (name : ℕ) (t : Tree) (at to lo hi : ℕ) → Spans head.statement_name_rest n at t to → lo ≤ name → name < at → to ≤ hi → Ascend lo hi (stmt_tokens (X.name_statement name t))
  name-statement name t at to lo hi s a c b =
      by-test (λ (x : Stmt). Ascend lo hi (stmt_tokens x)) (row_of t == R.CALL_STATEMENT) _ _
      (λ e. let f = G.call-statement s e in call-ordered n (alone name) (kid 0 t) (token 1 t) at f.0 lo hi (a, c, tt) f.2 (omega arith) (omega arith))
      (λ e1.
      by-test (λ (x : Stmt). Ascend lo hi (stmt_tokens x)) (row_of t == R.SCOPED_CALL_STATEMENT) _ _
      (λ e.
      let f = G.scoped-call-statement s e in
      let d = f.2.2 in
      call-ordered n (scoped name (token 0 t) (token 1 t)) (kid 2 t) (token 3 t) (suc (suc at)) d.0 lo hi (a, omega arith, (omega arith, omega arith, tt)) d.2 (omega arith) (omega arith))
      (λ e.
      let f = G.assigned-statement s (e1, (e, tt)) in
      let d = f.3 in
      name-assigned n name (kid 0 t) (kid 1 t) (token 2 t) at f.0 d.0 lo hi f.2 d.2 a c (omega arith)))

  -- items of blocks
  statement-in : (s : Stmt) (lo hi : ℕ) → Ascend lo hi (stmt_tokens s) → Ascend lo hi (block_item_tokens (I.Statement s))
  statement-in s lo hi a = item-is lo hi _ (I.rolls-Statement s) a

  variables-in : (automatic «var» : Option ℕ) (v : VariableText) (semicolon lo hi : ℕ) → Ascend lo hi (variables_tokens v) → Ascend lo hi (block_item_tokens (X.block_variables automatic «var» v semicolon))
  variables-in automatic «var» v semicolon lo hi a = item-is lo hi _ (I.rolls-Variables _ _ _ _ _) a

  automatic-item : (automatic : ℕ) (t : Tree) (semicolon at to lo hi : ℕ) → Spans head.automatic_declaration n at t to → lo ≤ at → to ≤ hi → Ascend lo hi (block_item_tokens (X.automatic_item automatic t semicolon))
  automatic-item automatic t semicolon at to lo hi s a b =
      by-test (λ (x : BlockItem). Ascend lo hi (block_item_tokens x)) (row_of t == R.PLAIN_AUTOMATIC) _ _
      (λ e. let f = G.plain-automatic s e in variables-in _ _ _ semicolon lo hi (variable-text-ordered n (kid 0 t) at f.0 lo hi f.2 a (omega arith)))
      (λ e. let f = G.var-automatic s (e, tt) in variables-in _ _ _ semicolon lo hi (variable-text-ordered n (kid 1 t) (suc at) f.2.0 lo hi f.2.2 (omega arith) (omega arith)))

  scoped-item : (name : QualifiedName) (t : Tree) (at to lo hi : ℕ) → Ascend lo at (name_tokens name) → Spans head.block_scoped_name_rest n at t to → lo ≤ at → to ≤ hi
      → Ascend lo hi (block_item_tokens (X.scoped_item name t))
  scoped-item name t at to lo hi w s a b =
      by-test (λ (x : BlockItem). Ascend lo hi (block_item_tokens x)) (row_of t == R.SCOPED_CALL_ITEM) _ _
      (λ e. let f = G.scoped-call-item s e in statement-in _ lo hi (call-ordered n name (kid 0 t) (token 1 t) at f.0 lo hi w f.2 a (omega arith)))
      (λ e.
      let f = G.scoped-variables s (e, tt) in
      let v = f.3 in
      variables-in _ _ _ (token 2 t) lo hi (variables-ordered n _ (kid 1 t) f.0 v.0 lo hi (named-ordered n name (kid 0 t) at f.0 lo f.0 w f.2 a (omega arith)) v.2 (omega arith) (omega arith)))

  selected-item : (name : ℕ) (selects t : Tree) (at mid to lo hi : ℕ) → Spans head.selects n at selects mid → Spans head.block_select_rest n mid t to → lo ≤ name → name < at → to ≤ hi
      → Ascend lo hi (block_item_tokens (X.selected_item name selects t))
  selected-item name selects t at mid to lo hi s r a c b =
      let d = s.rise in
      let g = r.rise in
      by-test (λ (x : BlockItem). Ascend lo hi (block_item_tokens x)) (row_of t == R.ASSIGNMENT_ITEM) _ _
      (λ e. let f = G.assignment-item r e in statement-in _ lo hi (name-assigned n name selects (kid 0 t) (token 1 t) at mid f.0 lo hi s f.2 a c (omega arith)))
      (λ e.
      let f = G.variables-item r (e, tt) in
      item-is lo hi _ (I.rolls-NamedVariables _ _ _ _)
      (a, omega arith, append _ _ mid (omega arith) (omega arith) (selects-at n s (omega arith) (omega arith)) (declarators-ordered n (kid 0 t) mid f.0 mid hi f.2 (omega arith) (omega arith))))

  name-item : (name : ℕ) (t : Tree) (at to lo hi : ℕ) → Spans head.block_name_rest n at t to → lo ≤ name → name < at → to ≤ hi → Ascend lo hi (block_item_tokens (X.name_item name t))
  name-item name t at to lo hi s a c b =
      by-test (λ (x : BlockItem). Ascend lo hi (block_item_tokens x)) (row_of t == R.CALL_ITEM) _ _
      (λ e. let f = G.call-item s e in statement-in _ lo hi (call-ordered n (alone name) (kid 0 t) (token 1 t) at f.0 lo hi (a, c, tt) f.2 (omega arith) (omega arith)))
      (λ e1.
      by-test (λ (x : BlockItem). Ascend lo hi (block_item_tokens x)) (row_of t == R.SCOPED_ITEM) _ _
      (λ e.
      let f = G.scoped-item s e in
      let d = f.2.2 in
      scoped-item (scoped name (token 0 t) (token 1 t)) (kid 2 t) (suc (suc at)) d.0 lo hi (a, omega arith, (omega arith, omega arith, tt)) d.2 (omega arith) (omega arith))
      (λ e.
      let f = G.selected-item s (e1, (e, tt)) in
      let d = f.3 in
      selected-item name (kid 0 t) (kid 1 t) at f.0 d.0 lo hi f.2 d.2 a c (omega arith)))

-- what stands one deeper
module _ (n : ℕ) (inner : Tree → Stmt) (items : Tree → BlockItem) (ok : Ordered head.statement (suc n) stmt_tokens inner) (oks : Ordered head.block_item (suc n) block_item_tokens items) where
  statement-of : Ordered head.statement n stmt_tokens (X.statement_of inner items)
  statement-of t at to lo hi s a b =
      by-test (λ (x : Stmt). Ascend lo hi (stmt_tokens x)) (row_of t == R.PLAIN_STATEMENT) _ _
      (λ e. let f = G.plain-statement s e in statement-item (suc n) inner items ok oks (kid 0 t) at f.0 lo hi f.2 a (omega arith))
      (λ e.
      let f = G.name-statement s (e, tt) in
      name-statement (suc n) inner items ok oks (token 0 t) (kid 1 t) (suc at) f.2.0 lo hi f.2.2 (omega arith) (omega arith) (omega arith))

  declaration-item : (t : Tree) (at to lo hi : ℕ) → Spans head.block_item n at t to → (row_of t == R.STATEMENT_ITEM) ≡ false → lo ≤ at → to ≤ hi → Ascend lo hi (block_item_tokens (X.declaration_item t))
  declaration-item t at to lo hi s e0 a b =
      by-test (λ (x : BlockItem). Ascend lo hi (block_item_tokens x)) (row_of t == R.PARAMETERS_ITEM) _ _
      (λ e. let f = G.parameters-item s e in item-is lo hi _ (I.rolls-Parameters _) (parameters-ordered (suc n) (kid 0 t) (token 1 t) at f.0 lo hi f.2 a (omega arith)))
      (λ e1.
      by-test (λ (x : BlockItem). Ascend lo hi (block_item_tokens x)) (row_of t == R.AUTOMATIC_ITEM) _ _
      (λ e. let f = G.automatic-item s e in automatic-item (suc n) inner items ok oks (token 0 t) (kid 1 t) (token 2 t) (suc at) f.2.0 lo hi f.2.2 (omega arith) (omega arith))
      (λ e2.
      by-test (λ (x : BlockItem). Ascend lo hi (block_item_tokens x)) (row_of t == R.KEYWORD_ITEM) _ _
      (λ e.
      let f = G.keyword-item s e in
      let d = f.3 in
      let v = d.3 in
      variables-in (suc n) inner items ok oks _ _ _ (token 3 t) lo hi
      (variables-ordered (suc n) _ (kid 2 t) d.0 v.0 lo hi (keyword-ordered (suc n) (kid 0 t) (kid 1 t) f.0 d.0 lo d.0 d.2 (omega arith) (omega arith)) v.2 (omega arith) (omega arith)))
      (λ e3.
      by-test (λ (x : BlockItem). Ascend lo hi (block_item_tokens x)) (row_of t == R.AGGREGATE_ITEM) _ _
      (λ e.
      let f = G.aggregate-item s e in
      let d = f.3 in
      let v = d.3 in
      variables-in (suc n) inner items ok oks _ _ _ (token 3 t) lo hi
      (variables-ordered (suc n) _ (kid 2 t) d.0 v.0 lo hi (aggregate-ordered (suc n) (kid 0 t) (kid 1 t) at f.0 d.0 lo d.0 f.2 d.2 (omega arith) (omega arith)) v.2 (omega arith) (omega arith)))
      (λ e4.
      by-test (λ (x : BlockItem). Ascend lo hi (block_item_tokens x)) (row_of t == R.VAR_ITEM) _ _
      (λ e.
      let f = G.var-item s e in
      variables-in (suc n) inner items ok oks _ _ _ (token 2 t) lo hi (variable-text-ordered (suc n) (kid 1 t) (suc at) f.2.0 lo hi f.2.2 (omega arith) (omega arith)))
      (λ e5.
      let f = G.name-item s (e0, (e1, (e2, (e3, (e4, (e5, tt)))))) in
      name-item (suc n) inner items ok oks (token 0 t) (kid 1 t) (suc at) f.2.0 lo hi f.2.2 (omega arith) (omega arith) (omega arith))))))

  block-item : Ordered head.block_item n block_item_tokens (X.block_item_of inner items)
  block-item t at to lo hi s a b =
      by-test (λ (x : BlockItem). Ascend lo hi (block_item_tokens x)) (row_of t == R.STATEMENT_ITEM) _ _
      (λ e.
      let f = G.statement-item s e in
      statement-in (suc n) inner items ok oks _ lo hi (statement-item (suc n) inner items ok oks (kid 0 t) at f.0 lo hi f.2 a (omega arith)))
      (λ e. declaration-item t at to lo hi s e a b)

-- statements and items of blocks, however deep
record BothOrdered (n : ℕ) (r : X.Readers) : Type 0 where
  stmt : Ordered head.statement n stmt_tokens r.stmt
  item : Ordered head.block_item n block_item_tokens r.item

inside-ordered : (depth n : ℕ) → nesting_limit ≤ n + depth → BothOrdered n (X.inside depth)
unfolding X.inside
inside-ordered zero n d = record {
  stmt = λ t at to lo hi s a b. let l = G.statement-limit s in absurd (omega arith);
  item = λ t at to lo hi s a b. let l = G.item-limit s in absurd (omega arith);
}
inside-ordered (suc depth) n d =
    let before = inside-ordered depth (suc n) (omega arith) in
    record {
      stmt = λ t at to lo hi s a b. statement-of n (X.inside depth).stmt (X.inside depth).item before.stmt before.item t at to lo hi s a b;
      item = λ t at to lo hi s a b. block-item n (X.inside depth).stmt (X.inside depth).item before.stmt before.item t at to lo hi s a b;
    }

pub stmt-ordered : (n : ℕ) → Ordered head.statement n stmt_tokens X.stmt_of
stmt-ordered n t at to lo hi s a b = (inside-ordered nesting_limit n (omega arith)).stmt t at to lo hi s a b

pub block-items-ordered : (n : ℕ) → Ordered head.block_items n items_tokens X.block_items_of
block-items-ordered n t at to lo hi s a b =
    L.each head.block_item n block_item_tokens (X.inside nesting_limit).item (λ x from end low high r c d. (inside-ordered nesting_limit n (omega arith)).item x from end low high r c d) (kids_of t) at to lo hi
    (G.block-items s) a b
