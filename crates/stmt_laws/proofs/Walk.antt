-- Each statement of a sound text is sound.
use Rattle.std.proofs.Common.{◌≡◌, Bool, true, ◌&&◌, List, [], ◌∷◌, map, Some, None, refl, sym, ◌∙◌, subst}
use Rattle.sv_tree.specs.declared.expressions.Expr as S
use Rattle.sv_tree.specs.declared.statements.BlockItem.{BlockItem, BlockItem-F, roll-BlockItem, map-BlockItem, ind-BlockItem, fold-roll-BlockItem}
use Rattle.sv_tree.specs.declared.statements.CaseItem.{CaseItem, CaseItem-F, fold-CaseItem, roll-CaseItem, map-CaseItem, fold-roll-CaseItem}
use Rattle.sv_tree.specs.declared.statements.Else.{Else, Else-F, fold-Else, roll-Else, map-Else, fold-roll-Else}
use Rattle.sv_tree.specs.declared.statements.Stmt.{Stmt, Stmt-F, roll-Stmt, map-Stmt, ind-Stmt, fold-roll-Stmt}
use Rattle.sv_types.specs.declared.statement.Function.{Function}
use Rattle.expr_type.specs.Names.{Context}
use Rattle.expr_type.specs.Expressions.{meaning}
use Rattle.expr_type.specs.Types.{typed_text}
use Rattle.expr_type.specs.Statements as T
use Rattle.expr_type.specs.Statements.{variables_of, selected_type, parameters, IsValue, OfValue, PartMeaning, CaseMeaning, StmtMeaning, block, item_meaning, stmt_meaning}
use Rattle.typing_fits.proofs.Full.{and-left, and-right}
use Rattle.typing_walks.specs.Keeps.{Keeps}
use Rattle.typing_walks.specs.Written as Z
use Rattle.typing_walks.specs.Written.{is_written}
use Rattle.typing_walks.specs.WrittenTypes.{type_written}
use Rattle.typing_walks.proofs.Walk.{expr-sound}
use Rattle.stmt_walks.specs.Written.{lvalue_written}
use Rattle.routine_fits.specs.Sound.{SoundStmt}
use Rattle.stmt_laws.specs.Written as W
use Rattle.stmt_laws.specs.Written.{declarators_written, selects_written, exprs_written, start_written, step_written, stmt_written, item_written, case_written, else_written, items_written}
use Rattle.stmt_laws.specs.Sound.{AroundStatements}
use Rattle.stmt_laws.proofs.Declared.{text-keeps, selected-keeps, variables-keep, parameters-keep}
use Rattle.stmt_laws.proofs.Parts.{AllMean, assign-keeps, counted-keeps}
use Rattle.stmt_laws.proofs.Statements as X
use Rattle.stmt_laws.proofs.Statements.{OfPart, OfStmt, OfCase, AllParts, AllCases}

abbrev pub case_meaning : CaseItem → CaseMeaning
case_meaning = fold-CaseItem PartMeaning CaseMeaning StmtMeaning StmtMeaning T.item_step T.case_step T.stmt_step T.else_step

abbrev pub else_meaning : Else → StmtMeaning
else_meaning = fold-Else PartMeaning CaseMeaning StmtMeaning StmtMeaning T.item_step T.case_step T.stmt_step T.else_step

module _ (Q : List Function → Type 0) where
  pub all-mean : (es : List S.Expr) → exprs_written es ≡ true → AllMean Q (map meaning es)
  all-mean [] w = tt
  all-mean (e ∷ es) w = (expr-sound Q e (and-left (is_written e) (exprs_written es) w), all-mean es (and-right (is_written e) (exprs_written es) w))

module _ (Q : List Function → Type 0) where
  abbrev OfItem : BlockItem → Type 0
  OfItem x = item_written x ≡ true → OfPart Q (item_meaning x)

  abbrev OfFound : CaseItem → Type 0
  OfFound x = case_written x ≡ true → OfCase Q (case_meaning x)

  abbrev OfWritten : Stmt → Type 0
  OfWritten x = stmt_written x ≡ true → OfStmt Q (stmt_meaning x)

  abbrev OfElse : Else → Type 0
  OfElse x = else_written x ≡ true → OfStmt Q (else_meaning x)

  abbrev AnItem : Type 0
  AnItem = (x : BlockItem) × OfItem x

  abbrev ACase : Type 0
  ACase = (x : CaseItem) × OfFound x

  abbrev AStmt : Type 0
  AStmt = (x : Stmt) × OfWritten x

  abbrev AnElse : Type 0
  AnElse = (x : Else) × OfElse x

  abbrev item_in : BlockItem-F AnItem ACase AStmt AnElse → BlockItem-F BlockItem CaseItem Stmt Else
  item_in = map-BlockItem AnItem ACase AStmt AnElse BlockItem CaseItem Stmt Else (λ e. e.0) (λ e. e.0) (λ e. e.0) (λ e. e.0)

  abbrev case_in : CaseItem-F AnItem ACase AStmt AnElse → CaseItem-F BlockItem CaseItem Stmt Else
  case_in = map-CaseItem AnItem ACase AStmt AnElse BlockItem CaseItem Stmt Else (λ e. e.0) (λ e. e.0) (λ e. e.0) (λ e. e.0)

  abbrev stmt_in : Stmt-F AnItem ACase AStmt AnElse → Stmt-F BlockItem CaseItem Stmt Else
  stmt_in = map-Stmt AnItem ACase AStmt AnElse BlockItem CaseItem Stmt Else (λ e. e.0) (λ e. e.0) (λ e. e.0) (λ e. e.0)

  abbrev else_in : Else-F AnItem ACase AStmt AnElse → Else-F BlockItem CaseItem Stmt Else
  else_in = map-Else AnItem ACase AStmt AnElse BlockItem CaseItem Stmt Else (λ e. e.0) (λ e. e.0) (λ e. e.0) (λ e. e.0)

  abbrev items_of : List AnItem → List BlockItem
  items_of ys = map (λ e. e.0) ys

  abbrev cases_of : List ACase → List CaseItem
  cases_of ys = map (λ e. e.0) ys

  each-item : (ys : List AnItem) → Z.all (map item_written (items_of ys)) ≡ true → AllParts Q (map item_meaning (items_of ys))
  each-item [] w = tt
  each-item (y ∷ ys) w =
      let written = Z.all (map item_written (items_of ys)) in
      (y.1 (and-left (item_written y.0) written w), each-item ys (and-right (item_written y.0) written w))

  each-found : (ys : List ACase) → Z.all (map case_written (cases_of ys)) ≡ true → AllCases Q (map case_meaning (cases_of ys))
  each-found [] w = tt
  each-found (y ∷ ys) w =
      let written = Z.all (map case_written (cases_of ys)) in
      (y.1 (and-left (case_written y.0) written w), each-found ys (and-right (case_written y.0) written w))

  -- a level of the tree
  abbrev written_item : BlockItem-F BlockItem CaseItem Stmt Else → Bool
  written_item z = W.item_step (map-BlockItem BlockItem CaseItem Stmt Else Bool Bool Bool Bool item_written case_written stmt_written else_written z)

  abbrev meant_item : BlockItem-F BlockItem CaseItem Stmt Else → PartMeaning
  meant_item z = T.item_step (map-BlockItem BlockItem CaseItem Stmt Else PartMeaning CaseMeaning StmtMeaning StmtMeaning item_meaning case_meaning stmt_meaning else_meaning z)

  item-case : (y : BlockItem-F AnItem ACase AStmt AnElse) → written_item (item_in y) ≡ true → OfPart Q (meant_item (item_in y))
  item-case (BlockItem-F.Statement s) w k r = X.statement-part Q (stmt_meaning s.0 k) (s.1 w k r)
  item-case (BlockItem-F.Parameters b) w k r = X.declared-part Q (parameters k (IsValue (OfValue None)) b.bodies) (parameters-keep Q k (IsValue (OfValue None)) b.bodies r.around w tt)
  item-case (BlockItem-F.Variables automatic v of ds semicolon) w k r =
      X.declared-part Q (variables_of k (typed_text of k) ds)
      (variables-keep Q k (typed_text of k) ds r.around (and-right (type_written of) (declarators_written ds) w) (text-keeps Q k of r.around (and-left (type_written of) (declarators_written ds) w)))
  item-case (BlockItem-F.NamedVariables of ss ds semicolon) w k r =
      X.declared-part Q (variables_of k (selected_type k of ss) ds)
      (variables-keep Q k (selected_type k of ss) ds r.around (and-right (selects_written ss) (declarators_written ds) w) (selected-keeps Q k of ss r.around (and-left (selects_written ss) (declarators_written ds) w)))

  abbrev written_case : CaseItem-F BlockItem CaseItem Stmt Else → Bool
  written_case z = W.case_step (map-CaseItem BlockItem CaseItem Stmt Else Bool Bool Bool Bool item_written case_written stmt_written else_written z)

  abbrev meant_case : CaseItem-F BlockItem CaseItem Stmt Else → CaseMeaning
  meant_case z = T.case_step (map-CaseItem BlockItem CaseItem Stmt Else PartMeaning CaseMeaning StmtMeaning StmtMeaning item_meaning case_meaning stmt_meaning else_meaning z)

  found-case : (y : CaseItem-F AnItem ACase AStmt AnElse) → written_case (case_in y) ≡ true → OfCase Q (meant_case (case_in y))
  found-case (CaseItem-F.Values es colon body) w k r =
      X.case-values Q k es (stmt_meaning body.0) r (and-left (exprs_written es) (stmt_written body.0) w) (body.1 (and-right (exprs_written es) (stmt_written body.0) w))
  found-case (CaseItem-F.Default keyword colon body) w k r = X.case-default Q k (stmt_meaning body.0) r (body.1 w)

  abbrev written_stmt : Stmt-F BlockItem CaseItem Stmt Else → Bool
  written_stmt z = W.stmt_step (map-Stmt BlockItem CaseItem Stmt Else Bool Bool Bool Bool item_written case_written stmt_written else_written z)

  abbrev meant_stmt : Stmt-F BlockItem CaseItem Stmt Else → StmtMeaning
  meant_stmt z = T.stmt_step (map-Stmt BlockItem CaseItem Stmt Else PartMeaning CaseMeaning StmtMeaning StmtMeaning item_meaning case_meaning stmt_meaning else_meaning z)

  stmt-case : (y : Stmt-F AnItem ACase AStmt AnElse) → written_stmt (stmt_in y) ≡ true → OfStmt Q (meant_stmt (stmt_in y))
  stmt-case (Stmt-F.Block begin label items end end_label) w k r = X.block-keeps Q k (map item_meaning (items_of items)) r (each-item items w)
  stmt-case (Stmt-F.If promise keyword opening test closing body None) w k r =
      let rest = and-right (is_written test) (stmt_written body.0 && true) w in
      X.if-keeps Q k test (stmt_meaning body.0) None r (and-left (is_written test) (stmt_written body.0 && true) w) (body.1 (and-left (stmt_written body.0) true rest)) tt
  stmt-case (Stmt-F.If promise keyword opening test closing body (Some e)) w k r =
      let rest = and-right (is_written test) (stmt_written body.0 && else_written e.0) w in
      X.if-keeps Q k test (stmt_meaning body.0) (Some (else_meaning e.0)) r (and-left (is_written test) (stmt_written body.0 && else_written e.0) w)
      (body.1 (and-left (stmt_written body.0) (else_written e.0) rest))
      (e.1 (and-right (stmt_written body.0) (else_written e.0) rest))
  stmt-case (Stmt-F.Case promise keyword opening sought closing items end) w k r =
      let written = Z.all (map case_written (cases_of items)) in
      X.case-keeps Q k keyword sought (map case_meaning (cases_of items)) r (and-left (is_written sought) written w) (each-found items (and-right (is_written sought) written w))
  stmt-case (Stmt-F.For keyword opening first first_semicolon test test_semicolon step closing body) w k r =
      let inner = step_written step && stmt_written body.0 in
      let one = and-right (start_written first) (is_written test && inner) w in
      let two = and-right (is_written test) inner one in
      X.loop-keeps Q k keyword first test step (stmt_meaning body.0) r (and-left (start_written first) (is_written test && inner) w) (and-left (is_written test) inner one) (and-left (step_written step) (stmt_written body.0) two)
      (body.1 (and-right (step_written step) (stmt_written body.0) two))
  stmt-case (Stmt-F.Break keyword semicolon) w k r = X.break-keeps Q
  stmt-case (Stmt-F.Continue keyword semicolon) w k r = X.continue-keeps Q
  stmt-case (Stmt-F.Return keyword e semicolon) w k r = X.returned-keeps Q k keyword e r w
  stmt-case (Stmt-F.Call of opening arguments closing semicolon) w k r = X.call-keeps Q k of (map meaning arguments) r.around (all-mean Q arguments w)
  stmt-case (Stmt-F.Assign to op at e semicolon) w k r = assign-keeps Q k to true op at e r.around (and-left (lvalue_written to) (is_written e) w) (and-right (lvalue_written to) (is_written e) w)
  stmt-case (Stmt-F.Postfix name ss op at semicolon) w k r = counted-keeps Q k name op at ss r.around w
  stmt-case (Stmt-F.Prefix op at name ss semicolon) w k r = counted-keeps Q k name op at ss r.around w
  stmt-case (Stmt-F.Empty semicolon) w k r = X.empty-keeps Q

  item-level : (y : BlockItem-F AnItem ACase AStmt AnElse) → OfItem (roll-BlockItem (item_in y))
  item-level y w =
      subst (λ m. OfPart Q m) (sym (fold-roll-BlockItem PartMeaning CaseMeaning StmtMeaning StmtMeaning T.item_step T.case_step T.stmt_step T.else_step (item_in y)))
      (item-case y (sym (fold-roll-BlockItem Bool Bool Bool Bool W.item_step W.case_step W.stmt_step W.else_step (item_in y)) ∙ w))

  found-level : (y : CaseItem-F AnItem ACase AStmt AnElse) → OfFound (roll-CaseItem (case_in y))
  found-level y w =
      subst (λ m. OfCase Q m) (sym (fold-roll-CaseItem PartMeaning CaseMeaning StmtMeaning StmtMeaning T.item_step T.case_step T.stmt_step T.else_step (case_in y)))
      (found-case y (sym (fold-roll-CaseItem Bool Bool Bool Bool W.item_step W.case_step W.stmt_step W.else_step (case_in y)) ∙ w))

  stmt-level : (y : Stmt-F AnItem ACase AStmt AnElse) → OfWritten (roll-Stmt (stmt_in y))
  stmt-level y w =
      subst (λ m. OfStmt Q m) (sym (fold-roll-Stmt PartMeaning CaseMeaning StmtMeaning StmtMeaning T.item_step T.case_step T.stmt_step T.else_step (stmt_in y)))
      (stmt-case y (sym (fold-roll-Stmt Bool Bool Bool Bool W.item_step W.case_step W.stmt_step W.else_step (stmt_in y)) ∙ w))

  else-level : (y : Else-F AnItem ACase AStmt AnElse) → OfElse (roll-Else (else_in y))
  else-level y w =
      subst (λ m. OfStmt Q m) (sym (fold-roll-Else PartMeaning CaseMeaning StmtMeaning StmtMeaning T.item_step T.case_step T.stmt_step T.else_step (else_in y)))
      (y.body.1 (sym (fold-roll-Else Bool Bool Bool Bool W.item_step W.case_step W.stmt_step W.else_step (else_in y)) ∙ w))

  stmt-sound : (x : Stmt) → OfWritten x
  stmt-sound =
      ind-Stmt OfItem OfFound OfWritten OfElse (λ x y is. subst (λ z. OfItem (roll-BlockItem z)) is (item-level y)) (λ x y is. subst (λ z. OfFound (roll-CaseItem z)) is (found-level y))
      (λ x y is. subst (λ z. OfWritten (roll-Stmt z)) is (stmt-level y)) (λ x y is. subst (λ z. OfElse (roll-Else z)) is (else-level y))

  item-sound : (x : BlockItem) → OfItem x
  item-sound =
      ind-BlockItem OfItem OfFound OfWritten OfElse (λ x y is. subst (λ z. OfItem (roll-BlockItem z)) is (item-level y)) (λ x y is. subst (λ z. OfFound (roll-CaseItem z)) is (found-level y))
      (λ x y is. subst (λ z. OfWritten (roll-Stmt z)) is (stmt-level y)) (λ x y is. subst (λ z. OfElse (roll-Else z)) is (else-level y))

  all-items : (xs : List BlockItem) → items_written xs ≡ true → AllParts Q (map item_meaning xs)
  all-items [] w = tt
  all-items (x ∷ xs) w =
      (item-sound x (and-left (item_written x) (items_written xs) w), all-items xs (and-right (item_written x) (items_written xs) w))

  pub statement-sound : (k : Context) (s : Stmt) → AroundStatements Q k → stmt_written s ≡ true → Keeps Q SoundStmt (stmt_meaning s k)
  statement-sound k s r w = stmt-sound s w k r

  pub block-sound : (k : Context) (items : List BlockItem) → AroundStatements Q k → items_written items ≡ true → Keeps Q SoundStmt (block k (map item_meaning items))
  block-sound k items r w = X.block-keeps Q k (map item_meaning items) r (all-items items w)
