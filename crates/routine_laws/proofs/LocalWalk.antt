-- Each statement whose targets find no signal writes none.
use Rattle.std.proofs.Common.{◌≡◌, Bool, true, ◌&&◌, List, [], ◌∷◌, map, Some, None, refl, sym, ◌∙◌, subst}
use Rattle.sv_tree.specs.declared.statements.BlockItem.{BlockItem, BlockItem-F, roll-BlockItem, map-BlockItem, ind-BlockItem, fold-roll-BlockItem}
use Rattle.sv_tree.specs.declared.statements.CaseItem.{CaseItem, CaseItem-F, roll-CaseItem, map-CaseItem, fold-roll-CaseItem}
use Rattle.sv_tree.specs.declared.statements.Else.{Else, Else-F, roll-Else, map-Else, fold-roll-Else}
use Rattle.sv_tree.specs.declared.statements.Stmt.{Stmt, Stmt-F, roll-Stmt, map-Stmt, ind-Stmt, fold-roll-Stmt}
use Rattle.sv_types.specs.declared.statement.Function.{Function}
use Rattle.expr_type.specs.Names.{Context}
use Rattle.expr_type.specs.Expressions.{meaning}
use Rattle.expr_type.specs.Types.{typed_text}
use Rattle.expr_type.specs.Statements as T
use Rattle.expr_type.specs.Statements.{variables_of, selected_type, parameters, IsValue, OfValue, PartMeaning, CaseMeaning, StmtMeaning, block, item_meaning, stmt_meaning}
use Rattle.typing_fits.proofs.Full.{and-left, and-right}
use Rattle.typing_walks.specs.Keeps.{Keeps}
use Rattle.typing_walks.specs.Written as Z
use Rattle.typing_walks.specs.Written.{is_written}
use Rattle.typing_walks.specs.WrittenTypes.{type_written}
use Rattle.stmt_walks.specs.Written.{lvalue_written}
use Rattle.stmt_laws.specs.Written as W
use Rattle.stmt_laws.specs.Written.{declarators_written, selects_written, exprs_written, start_written, step_written, stmt_written, item_written, case_written, else_written, items_written}
use Rattle.routine_laws.specs.Names as L
use Rattle.routine_laws.specs.Names.{Signals, signals_of, stmt_local, item_local, case_local, else_local, items_local}
use Rattle.stmt_laws.specs.Sound.{AroundStatements}
use Rattle.stmt_laws.proofs.Declared.{text-keeps, selected-keeps, variables-keep, parameters-keep}
use Rattle.stmt_laws.proofs.Walk.{case_meaning, else_meaning, all-mean}
use Rattle.routine_laws.specs.Sound.{WritesLocals}
use Rattle.routine_laws.proofs.Actuals.{actuals-local}
use Rattle.routine_laws.proofs.Locals as X
use Rattle.routine_laws.proofs.Locals.{Within, OfPart, OfStmt, OfCase, AllParts, AllCases}

module _ (Q : List Function → Type 0) (s : Signals) where
  abbrev OfItem : BlockItem → Type 0
  OfItem x = item_written x ≡ true → item_local s x ≡ true → OfPart Q s (item_meaning x)

  abbrev OfFound : CaseItem → Type 0
  OfFound x = case_written x ≡ true → case_local s x ≡ true → OfCase Q s (case_meaning x)

  abbrev OfWritten : Stmt → Type 0
  OfWritten x = stmt_written x ≡ true → stmt_local s x ≡ true → OfStmt Q s (stmt_meaning x)

  abbrev OfElse : Else → Type 0
  OfElse x = else_written x ≡ true → else_local s x ≡ true → OfStmt Q s (else_meaning x)

  abbrev AnItem : Type 0
  AnItem = (x : BlockItem) × OfItem x

  abbrev ACase : Type 0
  ACase = (x : CaseItem) × OfFound x

  abbrev AStmt : Type 0
  AStmt = (x : Stmt) × OfWritten x

  abbrev AnElse : Type 0
  AnElse = (x : Else) × OfElse x

  abbrev item_in : BlockItem-F AnItem ACase AStmt AnElse → BlockItem-F BlockItem CaseItem Stmt Else
  item_in = map-BlockItem AnItem ACase AStmt AnElse BlockItem CaseItem Stmt Else (λ e. e.0) (λ e. e.0) (λ e. e.0) (λ e. e.0)

  abbrev case_in : CaseItem-F AnItem ACase AStmt AnElse → CaseItem-F BlockItem CaseItem Stmt Else
  case_in = map-CaseItem AnItem ACase AStmt AnElse BlockItem CaseItem Stmt Else (λ e. e.0) (λ e. e.0) (λ e. e.0) (λ e. e.0)

  abbrev stmt_in : Stmt-F AnItem ACase AStmt AnElse → Stmt-F BlockItem CaseItem Stmt Else
  stmt_in = map-Stmt AnItem ACase AStmt AnElse BlockItem CaseItem Stmt Else (λ e. e.0) (λ e. e.0) (λ e. e.0) (λ e. e.0)

  abbrev else_in : Else-F AnItem ACase AStmt AnElse → Else-F BlockItem CaseItem Stmt Else
  else_in = map-Else AnItem ACase AStmt AnElse BlockItem CaseItem Stmt Else (λ e. e.0) (λ e. e.0) (λ e. e.0) (λ e. e.0)

  abbrev items_of : List AnItem → List BlockItem
  items_of ys = map (λ e. e.0) ys

  abbrev cases_of : List ACase → List CaseItem
  cases_of ys = map (λ e. e.0) ys

  each-item : (ys : List AnItem) → Z.all (map item_written (items_of ys)) ≡ true → Z.all (map (item_local s) (items_of ys)) ≡ true → AllParts Q s (map item_meaning (items_of ys))
  each-item [] w u = tt
  each-item (y ∷ ys) w u =
      let written = Z.all (map item_written (items_of ys)) in
      let stepped = Z.all (map (item_local s) (items_of ys)) in
      (y.1 (and-left (item_written y.0) written w) (and-left (item_local s y.0) stepped u), each-item ys (and-right (item_written y.0) written w) (and-right (item_local s y.0) stepped u))

  each-found : (ys : List ACase) → Z.all (map case_written (cases_of ys)) ≡ true → Z.all (map (case_local s) (cases_of ys)) ≡ true → AllCases Q s (map case_meaning (cases_of ys))
  each-found [] w u = tt
  each-found (y ∷ ys) w u =
      let written = Z.all (map case_written (cases_of ys)) in
      let stepped = Z.all (map (case_local s) (cases_of ys)) in
      (y.1 (and-left (case_written y.0) written w) (and-left (case_local s y.0) stepped u), each-found ys (and-right (case_written y.0) written w) (and-right (case_local s y.0) stepped u))

  -- a level of the tree
  abbrev written_item : BlockItem-F BlockItem CaseItem Stmt Else → Bool
  written_item z = W.item_step (map-BlockItem BlockItem CaseItem Stmt Else Bool Bool Bool Bool item_written case_written stmt_written else_written z)

  abbrev stepped_item : BlockItem-F BlockItem CaseItem Stmt Else → Bool
  stepped_item z = L.item_step (map-BlockItem BlockItem CaseItem Stmt Else Bool Bool Bool Bool (item_local s) (case_local s) (stmt_local s) (else_local s) z)

  abbrev meant_item : BlockItem-F BlockItem CaseItem Stmt Else → PartMeaning
  meant_item z = T.item_step (map-BlockItem BlockItem CaseItem Stmt Else PartMeaning CaseMeaning StmtMeaning StmtMeaning item_meaning case_meaning stmt_meaning else_meaning z)

  item-case : (y : BlockItem-F AnItem ACase AStmt AnElse) → written_item (item_in y) ≡ true → stepped_item (item_in y) ≡ true → OfPart Q s (meant_item (item_in y))
  item-case (BlockItem-F.Statement x) w u k r = X.statement-part Q s (stmt_meaning x.0 k) (x.1 w u k r)
  item-case (BlockItem-F.Parameters b) w u k r = X.declared-part Q s (parameters k (IsValue (OfValue None)) b.bodies) (parameters-keep Q k (IsValue (OfValue None)) b.bodies r.text.around w tt)
  item-case (BlockItem-F.Variables automatic v of ds semicolon) w u k r =
      X.declared-part Q s (variables_of k (typed_text of k) ds)
      (variables-keep Q k (typed_text of k) ds r.text.around (and-right (type_written of) (declarators_written ds) w) (text-keeps Q k of r.text.around (and-left (type_written of) (declarators_written ds) w)))
  item-case (BlockItem-F.NamedVariables of ss ds semicolon) w u k r =
      X.declared-part Q s (variables_of k (selected_type k of ss) ds)
      (variables-keep Q k (selected_type k of ss) ds r.text.around (and-right (selects_written ss) (declarators_written ds) w) (selected-keeps Q k of ss r.text.around (and-left (selects_written ss) (declarators_written ds) w)))

  abbrev written_case : CaseItem-F BlockItem CaseItem Stmt Else → Bool
  written_case z = W.case_step (map-CaseItem BlockItem CaseItem Stmt Else Bool Bool Bool Bool item_written case_written stmt_written else_written z)

  abbrev stepped_case : CaseItem-F BlockItem CaseItem Stmt Else → Bool
  stepped_case z = L.case_step (map-CaseItem BlockItem CaseItem Stmt Else Bool Bool Bool Bool (item_local s) (case_local s) (stmt_local s) (else_local s) z)

  abbrev meant_case : CaseItem-F BlockItem CaseItem Stmt Else → CaseMeaning
  meant_case z = T.case_step (map-CaseItem BlockItem CaseItem Stmt Else PartMeaning CaseMeaning StmtMeaning StmtMeaning item_meaning case_meaning stmt_meaning else_meaning z)

  found-case : (y : CaseItem-F AnItem ACase AStmt AnElse) → written_case (case_in y) ≡ true → stepped_case (case_in y) ≡ true → OfCase Q s (meant_case (case_in y))
  found-case (CaseItem-F.Values es colon body) w u k r =
      X.case-values Q s k es (stmt_meaning body.0) r (and-left (exprs_written es) (stmt_written body.0) w) (body.1 (and-right (exprs_written es) (stmt_written body.0) w) u)
  found-case (CaseItem-F.Default keyword colon body) w u k r = X.case-default Q s k (stmt_meaning body.0) r (body.1 w u)

  abbrev written_stmt : Stmt-F BlockItem CaseItem Stmt Else → Bool
  written_stmt z = W.stmt_step (map-Stmt BlockItem CaseItem Stmt Else Bool Bool Bool Bool item_written case_written stmt_written else_written z)

  abbrev stepped_stmt : Stmt-F BlockItem CaseItem Stmt Else → Bool
  stepped_stmt z = L.stmt_step s (map-Stmt BlockItem CaseItem Stmt Else Bool Bool Bool Bool (item_local s) (case_local s) (stmt_local s) (else_local s) z)

  abbrev meant_stmt : Stmt-F BlockItem CaseItem Stmt Else → StmtMeaning
  meant_stmt z = T.stmt_step (map-Stmt BlockItem CaseItem Stmt Else PartMeaning CaseMeaning StmtMeaning StmtMeaning item_meaning case_meaning stmt_meaning else_meaning z)

  stmt-case : (y : Stmt-F AnItem ACase AStmt AnElse) → written_stmt (stmt_in y) ≡ true → stepped_stmt (stmt_in y) ≡ true → OfStmt Q s (meant_stmt (stmt_in y))
  stmt-case (Stmt-F.Block begin label items end end_label) w u k r = X.block-keeps Q s k (map item_meaning (items_of items)) r (each-item items w u)
  stmt-case (Stmt-F.If promise keyword opening test closing body None) w u k r =
      let rest = and-right (is_written test) (stmt_written body.0 && true) w in
      X.if-keeps Q s k test (stmt_meaning body.0) None r (and-left (is_written test) (stmt_written body.0 && true) w) (body.1 (and-left (stmt_written body.0) true rest) (and-left (stmt_local s body.0) true u)) tt
  stmt-case (Stmt-F.If promise keyword opening test closing body (Some e)) w u k r =
      let rest = and-right (is_written test) (stmt_written body.0 && else_written e.0) w in
      X.if-keeps Q s k test (stmt_meaning body.0) (Some (else_meaning e.0)) r (and-left (is_written test) (stmt_written body.0 && else_written e.0) w)
      (body.1 (and-left (stmt_written body.0) (else_written e.0) rest) (and-left (stmt_local s body.0) (else_local s e.0) u))
      (e.1 (and-right (stmt_written body.0) (else_written e.0) rest) (and-right (stmt_local s body.0) (else_local s e.0) u))
  stmt-case (Stmt-F.Case promise keyword opening sought closing items end) w u k r =
      let written = Z.all (map case_written (cases_of items)) in
      X.case-keeps Q s k keyword sought (map case_meaning (cases_of items)) r (and-left (is_written sought) written w) (each-found items (and-right (is_written sought) written w) u)
  stmt-case (Stmt-F.For keyword opening first first_semicolon test test_semicolon step closing body) w u k r =
      let inner = step_written step && stmt_written body.0 in
      let one = and-right (start_written first) (is_written test && inner) w in
      let two = and-right (is_written test) inner one in
      X.loop-keeps Q s k keyword first test step (stmt_meaning body.0) r (and-left (start_written first) (is_written test && inner) w) (and-left (is_written test) inner one) (and-left (step_written step) (stmt_written body.0) two)
      (body.1 (and-right (step_written step) (stmt_written body.0) two) u)
  stmt-case (Stmt-F.Break keyword semicolon) w u k r = X.break-keeps Q s
  stmt-case (Stmt-F.Continue keyword semicolon) w u k r = X.continue-keeps Q s
  stmt-case (Stmt-F.Return keyword e semicolon) w u k r = X.returned-keeps Q s k keyword e r w
  stmt-case (Stmt-F.Call of opening arguments closing semicolon) w u k r = X.call-keeps Q s k of (map meaning arguments) r (all-mean Q arguments w) (actuals-local s arguments u)
  stmt-case (Stmt-F.Assign to op at e semicolon) w u k r = X.assign-keeps Q s k to op at e r (and-left (lvalue_written to) (is_written e) w) (and-right (lvalue_written to) (is_written e) w) u
  stmt-case (Stmt-F.Postfix name ss op at semicolon) w u k r = X.counted-keeps Q s k name op at ss r w u
  stmt-case (Stmt-F.Prefix op at name ss semicolon) w u k r = X.counted-keeps Q s k name op at ss r w u
  stmt-case (Stmt-F.Empty semicolon) w u k r = X.empty-keeps Q s

  item-level : (y : BlockItem-F AnItem ACase AStmt AnElse) → OfItem (roll-BlockItem (item_in y))
  item-level y w u =
      subst (λ m. OfPart Q s m) (sym (fold-roll-BlockItem PartMeaning CaseMeaning StmtMeaning StmtMeaning T.item_step T.case_step T.stmt_step T.else_step (item_in y)))
      (item-case y (sym (fold-roll-BlockItem Bool Bool Bool Bool W.item_step W.case_step W.stmt_step W.else_step (item_in y)) ∙ w)
      (sym (fold-roll-BlockItem Bool Bool Bool Bool L.item_step L.case_step (L.stmt_step s) L.else_step (item_in y)) ∙ u))

  found-level : (y : CaseItem-F AnItem ACase AStmt AnElse) → OfFound (roll-CaseItem (case_in y))
  found-level y w u =
      subst (λ m. OfCase Q s m) (sym (fold-roll-CaseItem PartMeaning CaseMeaning StmtMeaning StmtMeaning T.item_step T.case_step T.stmt_step T.else_step (case_in y)))
      (found-case y (sym (fold-roll-CaseItem Bool Bool Bool Bool W.item_step W.case_step W.stmt_step W.else_step (case_in y)) ∙ w)
      (sym (fold-roll-CaseItem Bool Bool Bool Bool L.item_step L.case_step (L.stmt_step s) L.else_step (case_in y)) ∙ u))

  stmt-level : (y : Stmt-F AnItem ACase AStmt AnElse) → OfWritten (roll-Stmt (stmt_in y))
  stmt-level y w u =
      subst (λ m. OfStmt Q s m) (sym (fold-roll-Stmt PartMeaning CaseMeaning StmtMeaning StmtMeaning T.item_step T.case_step T.stmt_step T.else_step (stmt_in y)))
      (stmt-case y (sym (fold-roll-Stmt Bool Bool Bool Bool W.item_step W.case_step W.stmt_step W.else_step (stmt_in y)) ∙ w)
      (sym (fold-roll-Stmt Bool Bool Bool Bool L.item_step L.case_step (L.stmt_step s) L.else_step (stmt_in y)) ∙ u))

  else-level : (y : Else-F AnItem ACase AStmt AnElse) → OfElse (roll-Else (else_in y))
  else-level y w u =
      subst (λ m. OfStmt Q s m) (sym (fold-roll-Else PartMeaning CaseMeaning StmtMeaning StmtMeaning T.item_step T.case_step T.stmt_step T.else_step (else_in y)))
      (y.body.1 (sym (fold-roll-Else Bool Bool Bool Bool W.item_step W.case_step W.stmt_step W.else_step (else_in y)) ∙ w)
      (sym (fold-roll-Else Bool Bool Bool Bool L.item_step L.case_step (L.stmt_step s) L.else_step (else_in y)) ∙ u))

  stmt-writes : (x : Stmt) → OfWritten x
  stmt-writes =
      ind-Stmt OfItem OfFound OfWritten OfElse (λ x y is. subst (λ z. OfItem (roll-BlockItem z)) is (item-level y)) (λ x y is. subst (λ z. OfFound (roll-CaseItem z)) is (found-level y))
      (λ x y is. subst (λ z. OfWritten (roll-Stmt z)) is (stmt-level y)) (λ x y is. subst (λ z. OfElse (roll-Else z)) is (else-level y))

  item-writes : (x : BlockItem) → OfItem x
  item-writes =
      ind-BlockItem OfItem OfFound OfWritten OfElse (λ x y is. subst (λ z. OfItem (roll-BlockItem z)) is (item-level y)) (λ x y is. subst (λ z. OfFound (roll-CaseItem z)) is (found-level y))
      (λ x y is. subst (λ z. OfWritten (roll-Stmt z)) is (stmt-level y)) (λ x y is. subst (λ z. OfElse (roll-Else z)) is (else-level y))

  all-items : (xs : List BlockItem) → items_written xs ≡ true → items_local s xs ≡ true → AllParts Q s (map item_meaning xs)
  all-items [] w u = tt
  all-items (x ∷ xs) w u =
      (item-writes x (and-left (item_written x) (items_written xs) w) (and-left (item_local s x) (items_local s xs) u), all-items xs (and-right (item_written x) (items_written xs) w) (and-right (item_local s x) (items_local s xs) u))

module _ (Q : List Function → Type 0) where
  within : (k : Context) → AroundStatements Q k → Within Q (signals_of k) k
  within k r = record { text = r; names = refl }

  pub statement-writes : (k : Context) (x : Stmt) → AroundStatements Q k → stmt_written x ≡ true → stmt_local (signals_of k) x ≡ true → Keeps Q WritesLocals (stmt_meaning x k)
  statement-writes k x r w u = stmt-writes Q (signals_of k) x w u k (within k r)

  pub block-writes : (k : Context) (items : List BlockItem) → AroundStatements Q k → items_written items ≡ true → items_local (signals_of k) items ≡ true → Keeps Q WritesLocals (block k (map item_meaning items))
  block-writes k items r w u = X.block-keeps Q (signals_of k) k (map item_meaning items) (within k r) (all-items Q (signals_of k) items w u)
