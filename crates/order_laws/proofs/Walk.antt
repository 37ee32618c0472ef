-- Each statement whose tokens ascend keeps the order of the text.
use Rattle.std.proofs.Common.{ℕ, suc, ◌≤◌, ◌++◌, true, List, [], ◌∷◌, map, Some, None, sym, subst, arith}
use Rattle.sv_tree.specs.declared.expressions.Expr.{Expr}
use Rattle.sv_tree.specs.declared.statements.BlockItem.{BlockItem, BlockItem-F, roll-BlockItem, map-BlockItem, ind-BlockItem, fold-roll-BlockItem}
use Rattle.sv_tree.specs.declared.statements.CaseItem.{CaseItem, CaseItem-F, fold-CaseItem, roll-CaseItem, map-CaseItem, fold-roll-CaseItem}
use Rattle.sv_tree.specs.declared.statements.Else.{Else, Else-F, fold-Else, roll-Else, map-Else, fold-roll-Else}
use Rattle.sv_tree.specs.declared.statements.Stmt.{Stmt, Stmt-F, roll-Stmt, map-Stmt, ind-Stmt, fold-roll-Stmt}
use Rattle.expr_type.specs.Expressions.{meaning}
use Rattle.expr_type.specs.Types.{typed_text}
use Rattle.expr_type.specs.Statements as T
use Rattle.expr_type.specs.Statements.{variables_of, selected_type, parameters, IsValue, OfValue, PartMeaning, CaseMeaning, StmtMeaning, block, case_kind, item_meaning, stmt_meaning}
use Rattle.expr_type.specs.Placed.{Ascend}
use Rattle.order_laws.specs.Meanings.{ExprInOrder}
use Rattle.order_laws.specs.Ordered as O
use Rattle.order_laws.specs.Ordered.{Tokens, in_row, scope_tokens, name_tokens, expr_tokens, exprs_tokens, selects_tokens, type_tokens, declarators_tokens, start_tokens, loop_step_tokens, stmt_tokens, block_item_tokens, case_item_tokens, else_tokens, items_tokens}
use Rattle.order_laws.proofs.Tokens.{split}
use Rattle.order_laws.proofs.Typings.{Each, any-from}
use Rattle.order_laws.proofs.Parts.{Ordered, PartsInOrder, each-in-row, each-known, each-of, named}
use Rattle.order_laws.proofs.Assignments.{assign-in, counted-in}
use Rattle.order_laws.proofs.Declared.{KeepsOrder, parameters-in, selected-in, text-in, variables-in}
use Rattle.order_laws.proofs.Loops.{loop-in}
use Rattle.order_laws.proofs.Statements.{FoundInOrder, block-in, case-in, declared-part, default-found, if-in, returned-in, statement-part, values-found}
use Rattle.order_laws.proofs.TaskCalls.{call-in}

abbrev pub case_meaning : CaseItem → CaseMeaning
case_meaning = fold-CaseItem PartMeaning CaseMeaning StmtMeaning StmtMeaning T.item_step T.case_step T.stmt_step T.else_step

abbrev pub else_meaning : Else → StmtMeaning
else_meaning = fold-Else PartMeaning CaseMeaning StmtMeaning StmtMeaning T.item_step T.case_step T.stmt_step T.else_step

module _ (parts : PartsInOrder) where
  each-expr : (es : List Expr) (low high : ℕ) → low ≤ high → Ascend low high (exprs_tokens es) → Each ExprInOrder low high (map meaning es)
  each-expr es low high h a =
      each-of meaning (λ l h e. ExprInOrder l h (meaning e)) ExprInOrder (λ l h e p. p) es low high (each-in-row expr_tokens (λ l h e. ExprInOrder l h (meaning e)) parts.expr es low high h a)

  abbrev OfItem : BlockItem → Type 0
  OfItem x = Ordered block_item_tokens (λ low high x. KeepsOrder low high (item_meaning x)) x

  abbrev OfFound : CaseItem → Type 0
  OfFound x = Ordered case_item_tokens (λ low high x. FoundInOrder low high (case_meaning x)) x

  abbrev OfStmt : Stmt → Type 0
  OfStmt x = Ordered stmt_tokens (λ low high x. KeepsOrder low high (stmt_meaning x)) x

  abbrev OfElse : Else → Type 0
  OfElse x = Ordered else_tokens (λ low high x. KeepsOrder low high (else_meaning x)) x

  abbrev AnItem : Type 0
  AnItem = (x : BlockItem) × OfItem x

  abbrev ACase : Type 0
  ACase = (x : CaseItem) × OfFound x

  abbrev AStmt : Type 0
  AStmt = (x : Stmt) × OfStmt x

  abbrev AnElse : Type 0
  AnElse = (x : Else) × OfElse x

  abbrev item_in : BlockItem-F AnItem ACase AStmt AnElse → BlockItem-F BlockItem CaseItem Stmt Else
  item_in = map-BlockItem AnItem ACase AStmt AnElse BlockItem CaseItem Stmt Else (λ e. e.0) (λ e. e.0) (λ e. e.0) (λ e. e.0)

  abbrev case_in : CaseItem-F AnItem ACase AStmt AnElse → CaseItem-F BlockItem CaseItem Stmt Else
  case_in = map-CaseItem AnItem ACase AStmt AnElse BlockItem CaseItem Stmt Else (λ e. e.0) (λ e. e.0) (λ e. e.0) (λ e. e.0)

  abbrev stmt_in : Stmt-F AnItem ACase AStmt AnElse → Stmt-F BlockItem CaseItem Stmt Else
  stmt_in = map-Stmt AnItem ACase AStmt AnElse BlockItem CaseItem Stmt Else (λ e. e.0) (λ e. e.0) (λ e. e.0) (λ e. e.0)

  abbrev else_in : Else-F AnItem ACase AStmt AnElse → Else-F BlockItem CaseItem Stmt Else
  else_in = map-Else AnItem ACase AStmt AnElse BlockItem CaseItem Stmt Else (λ e. e.0) (λ e. e.0) (λ e. e.0) (λ e. e.0)

  each-item : (ys : List AnItem) (low high : ℕ) → low ≤ high → Ascend low high (in_row (map block_item_tokens (map (λ e. e.0) ys))) → Each KeepsOrder low high (map item_meaning (map (λ e. e.0) ys))
  each-item ys low high h a =
      each-of item_meaning (λ l h x. KeepsOrder l h (item_meaning x)) KeepsOrder (λ l h x p. p) (map (λ e. e.0) ys) low high
      (each-known block_item_tokens (λ l h x. KeepsOrder l h (item_meaning x)) ys low high h a)

  each-found : (ys : List ACase) (low high : ℕ) → low ≤ high → Ascend low high (in_row (map case_item_tokens (map (λ e. e.0) ys))) → Each FoundInOrder low high (map case_meaning (map (λ e. e.0) ys))
  each-found ys low high h a =
      each-of case_meaning (λ l h x. FoundInOrder l h (case_meaning x)) FoundInOrder (λ l h x p. p) (map (λ e. e.0) ys) low high
      (each-known case_item_tokens (λ l h x. FoundInOrder l h (case_meaning x)) ys low high h a)

  -- a level of the tree
  abbrev tokens_item : BlockItem-F BlockItem CaseItem Stmt Else → Tokens
  tokens_item z = O.item_step (map-BlockItem BlockItem CaseItem Stmt Else Tokens Tokens Tokens Tokens block_item_tokens case_item_tokens stmt_tokens else_tokens z)

  abbrev meant_item : BlockItem-F BlockItem CaseItem Stmt Else → PartMeaning
  meant_item z = T.item_step (map-BlockItem BlockItem CaseItem Stmt Else PartMeaning CaseMeaning StmtMeaning StmtMeaning item_meaning case_meaning stmt_meaning else_meaning z)

  item-case : (y : BlockItem-F AnItem ACase AStmt AnElse) (low high : ℕ) → low ≤ high → Ascend low high (tokens_item (item_in y)) → KeepsOrder low high (meant_item (item_in y))
  item-case (BlockItem-F.Statement s) low high h a = statement-part (stmt_meaning s.0) low high (s.1 low high h a)
  item-case (BlockItem-F.Parameters b) low high h a =
      declared-part (λ k. parameters k (IsValue (OfValue None)) b.bodies) low high (λ k rs. parameters-in parts k (IsValue (OfValue None)) b.bodies low high rs h a)
  item-case (BlockItem-F.Variables automatic v of ds semicolon) low high h a =
      let s = split (type_tokens of) (declarators_tokens ds) low high h a in
      declared-part (λ k. variables_of k (typed_text of k) ds) low high
      (λ k rs. variables-in parts k (typed_text of k) ds low s.between high rs s.from s.to (text-in parts k of low s.between rs s.from s.before) s.behind)
  item-case (BlockItem-F.NamedVariables of ss ds semicolon) low high h a =
      let up = a.0 in let down = a.1 in
      let s = split (selects_tokens ss) (declarators_tokens ds) (suc of) high (omega arith) a.2 in
      let from = s.from in
      declared-part (λ k. variables_of k (selected_type k of ss) ds) low high
      (λ k rs. variables-in parts k (selected_type k of ss) ds low s.between high rs (omega arith) s.to
      (any-from k.source.instance (λ f. Unit {0}) (selected_type k of ss) (suc of) s.between low s.between (omega arith) (omega arith) (selected-in parts k of ss (suc of) s.between rs from s.before)) s.behind)

  abbrev tokens_case : CaseItem-F BlockItem CaseItem Stmt Else → Tokens
  tokens_case z = O.case_step (map-CaseItem BlockItem CaseItem Stmt Else Tokens Tokens Tokens Tokens block_item_tokens case_item_tokens stmt_tokens else_tokens z)

  abbrev meant_case : CaseItem-F BlockItem CaseItem Stmt Else → CaseMeaning
  meant_case z = T.case_step (map-CaseItem BlockItem CaseItem Stmt Else PartMeaning CaseMeaning StmtMeaning StmtMeaning item_meaning case_meaning stmt_meaning else_meaning z)

  found-case : (y : CaseItem-F AnItem ACase AStmt AnElse) (low high : ℕ) → low ≤ high → Ascend low high (tokens_case (case_in y)) → FoundInOrder low high (meant_case (case_in y))
  found-case (CaseItem-F.Values es colon body) low high h a =
      let s = split (exprs_tokens es) (stmt_tokens body.0) low high h a in
      values-found parts es (stmt_meaning body.0) low s.between high s.from s.to s.before (body.1 s.between high s.to s.behind)
  found-case (CaseItem-F.Default keyword colon body) low high h a = default-found (stmt_meaning body.0) low high h (body.1 low high h a)

  abbrev tokens_stmt : Stmt-F BlockItem CaseItem Stmt Else → Tokens
  tokens_stmt z = O.stmt_step (map-Stmt BlockItem CaseItem Stmt Else Tokens Tokens Tokens Tokens block_item_tokens case_item_tokens stmt_tokens else_tokens z)

  abbrev meant_stmt : Stmt-F BlockItem CaseItem Stmt Else → StmtMeaning
  meant_stmt z = T.stmt_step (map-Stmt BlockItem CaseItem Stmt Else PartMeaning CaseMeaning StmtMeaning StmtMeaning item_meaning case_meaning stmt_meaning else_meaning z)

  stmt-case : (y : Stmt-F AnItem ACase AStmt AnElse) (low high : ℕ) → low ≤ high → Ascend low high (tokens_stmt (stmt_in y)) → KeepsOrder low high (meant_stmt (stmt_in y))
  stmt-case (Stmt-F.Block begin label items end end_label) low high h a = block-in (map item_meaning (map (λ e. e.0) items)) low high (each-item items low high h a)
  stmt-case (Stmt-F.If promise keyword opening test closing body None) low high h a =
      let s = split (expr_tokens test) (stmt_tokens body.0 ++ []) low high h a in
      let r = split (stmt_tokens body.0) [] s.between high s.to s.behind in
      if-in parts test (stmt_meaning body.0) None low s.between r.between high s.from r.from r.to s.before (body.1 s.between r.between r.from r.before) tt
  stmt-case (Stmt-F.If promise keyword opening test closing body (Some e)) low high h a =
      let s = split (expr_tokens test) (stmt_tokens body.0 ++ else_tokens e.0) low high h a in
      let r = split (stmt_tokens body.0) (else_tokens e.0) s.between high s.to s.behind in
      if-in parts test (stmt_meaning body.0) (Some (else_meaning e.0)) low s.between r.between high s.from r.from r.to s.before
      (body.1 s.between r.between r.from r.before) (e.1 r.between high r.to r.behind)
  stmt-case (Stmt-F.Case promise keyword opening sought closing items end) low high h a =
      let s = split (expr_tokens sought) (in_row (map case_item_tokens (map (λ e. e.0) items))) low high h a in
      case-in parts (case_kind keyword) sought (map case_meaning (map (λ e. e.0) items)) low s.between high s.from s.to s.before (each-found items s.between high s.to s.behind)
  stmt-case (Stmt-F.For keyword opening first first_semicolon test test_semicolon step closing body) low high h a =
      let s = split (start_tokens first) (expr_tokens test ++ (loop_step_tokens step ++ stmt_tokens body.0)) low high h a in
      let r = split (expr_tokens test) (loop_step_tokens step ++ stmt_tokens body.0) s.between high s.to s.behind in
      let q = split (loop_step_tokens step) (stmt_tokens body.0) r.between high r.to r.behind in
      loop-in parts keyword first test step (stmt_meaning body.0) low s.between r.between q.between high s.from r.from q.from q.to s.before r.before q.before (body.1 q.between high q.to q.behind)
  stmt-case (Stmt-F.Break keyword semicolon) low high h a = λ k rs fs. tt
  stmt-case (Stmt-F.Continue keyword semicolon) low high h a = λ k rs fs. tt
  stmt-case (Stmt-F.Return keyword e semicolon) low high h a = returned-in parts keyword e low high h a
  stmt-case (Stmt-F.Call of opening arguments closing semicolon) low high h a =
      let n = named of (exprs_tokens arguments) low high a in
      let from = n.before in
      call-in of (map meaning arguments) low high n.from from (each-expr arguments (suc of.name) high (omega arith) n.behind)
  stmt-case (Stmt-F.Assign to op at e semicolon) low high h a = λ k rs. assign-in parts k to true at op e low high rs h a
  stmt-case (Stmt-F.Postfix name ss op at semicolon) low high h a =
      let up = a.0 in let down = a.1 in
      let s = split (selects_tokens ss) (at ∷ []) (suc name) high (omega arith) a.2 in
      let from = s.from in let counts = s.behind.0 in let last = s.behind.1 in
      λ k rs. counted-in k name op at ss low low s.between high rs (omega arith) last (omega arith) s.to up (parts.selects ss (suc name) s.between from s.before)
  stmt-case (Stmt-F.Prefix op at name ss semicolon) low high h a =
      let up = a.0 in let down = a.1 in let named = a.2.0 in let last = a.2.1 in
      λ k rs. counted-in k name op at ss low low high high rs up down (omega arith) (omega arith) (omega arith) (parts.selects ss (suc name) high (omega arith) a.2.2)
  stmt-case (Stmt-F.Empty semicolon) low high h a = λ k rs fs. tt

  item-level : (y : BlockItem-F AnItem ACase AStmt AnElse) → OfItem (roll-BlockItem (item_in y))
  item-level y low high h a =
      subst (λ m. KeepsOrder low high m) (sym (fold-roll-BlockItem PartMeaning CaseMeaning StmtMeaning StmtMeaning T.item_step T.case_step T.stmt_step T.else_step (item_in y)))
      (item-case y low high h (subst (λ ts. Ascend low high ts) (fold-roll-BlockItem Tokens Tokens Tokens Tokens O.item_step O.case_step O.stmt_step O.else_step (item_in y)) a))

  found-level : (y : CaseItem-F AnItem ACase AStmt AnElse) → OfFound (roll-CaseItem (case_in y))
  found-level y low high h a =
      subst (λ m. FoundInOrder low high m) (sym (fold-roll-CaseItem PartMeaning CaseMeaning StmtMeaning StmtMeaning T.item_step T.case_step T.stmt_step T.else_step (case_in y)))
      (found-case y low high h (subst (λ ts. Ascend low high ts) (fold-roll-CaseItem Tokens Tokens Tokens Tokens O.item_step O.case_step O.stmt_step O.else_step (case_in y)) a))

  stmt-level : (y : Stmt-F AnItem ACase AStmt AnElse) → OfStmt (roll-Stmt (stmt_in y))
  stmt-level y low high h a =
      subst (λ m. KeepsOrder low high m) (sym (fold-roll-Stmt PartMeaning CaseMeaning StmtMeaning StmtMeaning T.item_step T.case_step T.stmt_step T.else_step (stmt_in y)))
      (stmt-case y low high h (subst (λ ts. Ascend low high ts) (fold-roll-Stmt Tokens Tokens Tokens Tokens O.item_step O.case_step O.stmt_step O.else_step (stmt_in y)) a))

  else-level : (y : Else-F AnItem ACase AStmt AnElse) → OfElse (roll-Else (else_in y))
  else-level y low high h a =
      subst (λ m. KeepsOrder low high m) (sym (fold-roll-Else PartMeaning CaseMeaning StmtMeaning StmtMeaning T.item_step T.case_step T.stmt_step T.else_step (else_in y)))
      (y.body.1 low high h (subst (λ ts. Ascend low high ts) (fold-roll-Else Tokens Tokens Tokens Tokens O.item_step O.case_step O.stmt_step O.else_step (else_in y)) a))

  pub stmt-in-order : (x : Stmt) → Ordered stmt_tokens (λ low high x. KeepsOrder low high (stmt_meaning x)) x
  stmt-in-order =
      ind-Stmt OfItem OfFound OfStmt OfElse (λ x y is. subst (λ z. OfItem (roll-BlockItem z)) is (item-level y)) (λ x y is. subst (λ z. OfFound (roll-CaseItem z)) is (found-level y))
      (λ x y is. subst (λ z. OfStmt (roll-Stmt z)) is (stmt-level y)) (λ x y is. subst (λ z. OfElse (roll-Else z)) is (else-level y))

  item-in-order : (x : BlockItem) → OfItem x
  item-in-order =
      ind-BlockItem OfItem OfFound OfStmt OfElse (λ x y is. subst (λ z. OfItem (roll-BlockItem z)) is (item-level y)) (λ x y is. subst (λ z. OfFound (roll-CaseItem z)) is (found-level y))
      (λ x y is. subst (λ z. OfStmt (roll-Stmt z)) is (stmt-level y)) (λ x y is. subst (λ z. OfElse (roll-Else z)) is (else-level y))

  pub items-in-order : (xs : List BlockItem) (low high : ℕ) → low ≤ high → Ascend low high (items_tokens xs) → KeepsOrder low high (λ k. block k (map item_meaning xs))
  items-in-order xs low high h a =
      block-in (map item_meaning xs) low high
      (each-of item_meaning (λ l h x. KeepsOrder l h (item_meaning x)) KeepsOrder (λ l h x p. p) xs low high
      (each-in-row block_item_tokens (λ l h x. KeepsOrder l h (item_meaning x)) item-in-order xs low high h a))
