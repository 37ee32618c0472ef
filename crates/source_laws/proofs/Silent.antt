-- Where no name finds a signal, what a body assigns to is none.
use Rattle.std.proofs.Common.{◌≡◌, ℕ, Bool, true, List, [], ◌∷◌, map, Option, Some, None, refl, ◌∙◌, subst}
use Rattle.sv_tree.specs.declared.expressions.Cast.{Cast, fold-Cast}
use Rattle.sv_tree.specs.declared.expressions.Dimension.{Dimension, fold-Dimension}
use Rattle.sv_tree.specs.declared.expressions.Expr.{Expr, Expr-F, roll-Expr, map-Expr, ind-Expr, fold-roll-Expr}
use Rattle.sv_tree.specs.declared.expressions.Pattern.{Pattern, fold-Pattern}
use Rattle.sv_tree.specs.declared.expressions.PatternItem.{PatternItem, fold-PatternItem}
use Rattle.sv_tree.specs.declared.expressions.Select.{Select, fold-Select}
use Rattle.sv_tree.specs.declared.expressions.SliceSize.{SliceSize, fold-SliceSize}
use Rattle.sv_tree.specs.declared.expressions.ValueRange.{ValueRange, fold-ValueRange}
use Rattle.sv_tree.specs.declared.statements.BlockItem.{BlockItem, BlockItem-F, roll-BlockItem, map-BlockItem, ind-BlockItem, fold-roll-BlockItem}
use Rattle.sv_tree.specs.declared.statements.CaseItem.{CaseItem, CaseItem-F, roll-CaseItem, map-CaseItem, fold-roll-CaseItem}
use Rattle.sv_tree.specs.declared.statements.Else.{Else, Else-F, roll-Else, map-Else, fold-roll-Else}
use Rattle.sv_tree.specs.declared.statements.Lvalue.{Lvalue, Lvalue-F, roll-Lvalue, map-Lvalue, ind-Lvalue, fold-roll-Lvalue}
use Rattle.sv_tree.specs.declared.statements.Stmt.{Stmt, Stmt-F, roll-Stmt, map-Stmt, fold-roll-Stmt}
use Rattle.expr_type.specs.Targets.{simple_name}
use Rattle.typing_walks.specs.Written.{all}
use Rattle.routine_laws.specs.Names as N
use Rattle.routine_laws.specs.Names.{Signals, is_no_signal, lvalue_local, actual_local, stmt_local, item_local, case_local, else_local, items_local}
use Rattle.written_laws.proofs.Tests.{both}

module _ (s : Signals) (silent : (o : Option ℕ) → is_no_signal s o ≡ true) where
  -- targets
  abbrev OfLvalue : Lvalue → Type 0
  OfLvalue x = lvalue_local s x ≡ true

  abbrev ALvalue : Type 0
  ALvalue = (x : Lvalue) × OfLvalue x

  abbrev lvalue_in : Lvalue-F ALvalue → Lvalue-F Lvalue
  lvalue_in = map-Lvalue ALvalue Lvalue (λ e. e.0)

  abbrev local_lvalue : Lvalue-F Lvalue → Bool
  local_lvalue z = N.lvalue_step s (map-Lvalue Lvalue Bool (lvalue_local s) z)

  each-lvalue : (ys : List ALvalue) → all (map (lvalue_local s) (map (λ e. e.0) ys)) ≡ true
  each-lvalue [] = refl
  each-lvalue (y ∷ ys) = both y.1 (each-lvalue ys)

  lvalue-case : (y : Lvalue-F ALvalue) → local_lvalue (lvalue_in y) ≡ true
  lvalue-case (Lvalue-F.Name name selects) = silent (s.finds (simple_name name))
  lvalue-case (Lvalue-F.Concatenation opening targets closing) = each-lvalue targets
  lvalue-case (Lvalue-F.Stream opening operator at size inner_opening targets inner_closing closing) = each-lvalue targets

  lvalue-level : (y : Lvalue-F ALvalue) → OfLvalue (roll-Lvalue (lvalue_in y))
  lvalue-level y = fold-roll-Lvalue Bool (N.lvalue_step s) (lvalue_in y) ∙ lvalue-case y

  lvalue-silent : (x : Lvalue) → OfLvalue x
  lvalue-silent = ind-Lvalue OfLvalue (λ x y is. subst (λ z. OfLvalue (roll-Lvalue z)) is (lvalue-level y))

  -- actuals
  abbrev OfExpr : Expr → Type 0
  OfExpr x = actual_local s x ≡ true

  abbrev AnExpr : Type 0
  AnExpr = (x : Expr) × OfExpr x

  abbrev Alone : Type 0 → Type 0
  Alone A = A × Unit {0}

  abbrev AnyOf : {A : Type 0} → A → Type 0
  AnyOf a = Unit {0}

  abbrev expr_in : Expr-F (Alone Cast) (Alone Dimension) AnExpr (Alone Pattern) (Alone PatternItem) (Alone Select) (Alone SliceSize) (Alone ValueRange) → Expr-F Cast Dimension Expr Pattern PatternItem Select SliceSize ValueRange
  expr_in = map-Expr (Alone Cast) (Alone Dimension) AnExpr (Alone Pattern) (Alone PatternItem) (Alone Select) (Alone SliceSize) (Alone ValueRange) Cast Dimension Expr Pattern PatternItem Select SliceSize ValueRange (λ e. e.0) (λ e. e.0) (λ e. e.0) (λ e. e.0) (λ e. e.0) (λ e. e.0) (λ e. e.0) (λ e. e.0)

  abbrev local_cast : Cast → Bool
  local_cast = fold-Cast Bool Bool Bool Bool Bool Bool Bool Bool N.cast_step N.dimension_step (N.expr_step s) N.pattern_step N.pattern_item_step N.select_step N.slice_step N.range_step

  abbrev local_dimension : Dimension → Bool
  local_dimension = fold-Dimension Bool Bool Bool Bool Bool Bool Bool Bool N.cast_step N.dimension_step (N.expr_step s) N.pattern_step N.pattern_item_step N.select_step N.slice_step N.range_step

  abbrev local_pattern : Pattern → Bool
  local_pattern = fold-Pattern Bool Bool Bool Bool Bool Bool Bool Bool N.cast_step N.dimension_step (N.expr_step s) N.pattern_step N.pattern_item_step N.select_step N.slice_step N.range_step

  abbrev local_item : PatternItem → Bool
  local_item = fold-PatternItem Bool Bool Bool Bool Bool Bool Bool Bool N.cast_step N.dimension_step (N.expr_step s) N.pattern_step N.pattern_item_step N.select_step N.slice_step N.range_step

  abbrev local_select : Select → Bool
  local_select = fold-Select Bool Bool Bool Bool Bool Bool Bool Bool N.cast_step N.dimension_step (N.expr_step s) N.pattern_step N.pattern_item_step N.select_step N.slice_step N.range_step

  abbrev local_slice : SliceSize → Bool
  local_slice = fold-SliceSize Bool Bool Bool Bool Bool Bool Bool Bool N.cast_step N.dimension_step (N.expr_step s) N.pattern_step N.pattern_item_step N.select_step N.slice_step N.range_step

  abbrev local_range : ValueRange → Bool
  local_range = fold-ValueRange Bool Bool Bool Bool Bool Bool Bool Bool N.cast_step N.dimension_step (N.expr_step s) N.pattern_step N.pattern_item_step N.select_step N.slice_step N.range_step

  abbrev local_expr : Expr-F Cast Dimension Expr Pattern PatternItem Select SliceSize ValueRange → Bool
  local_expr z = N.expr_step s (map-Expr Cast Dimension Expr Pattern PatternItem Select SliceSize ValueRange Bool Bool Bool Bool Bool Bool Bool Bool local_cast local_dimension (actual_local s) local_pattern local_item local_select local_slice local_range z)

  each-expr : (ys : List AnExpr) → all (map (actual_local s) (map (λ e. e.0) ys)) ≡ true
  each-expr [] = refl
  each-expr (y ∷ ys) = both y.1 (each-expr ys)

  expr-case : (y : Expr-F (Alone Cast) (Alone Dimension) AnExpr (Alone Pattern) (Alone PatternItem) (Alone Select) (Alone SliceSize) (Alone ValueRange)) → local_expr (expr_in y) ≡ true
  expr-case (Expr-F.Concatenation opening items closing) = each-expr items
  expr-case (Expr-F.«Expr::Name» of selects cast) = silent (s.finds of)
  expr-case (Expr-F.Type of packed cast) = refl
  expr-case (Expr-F.Conditional test question first colon second) = refl
  expr-case (Expr-F.Binary left operator at right) = refl
  expr-case (Expr-F.Inside sought keyword opening ranges closing) = refl
  expr-case (Expr-F.Unary operator at operand) = refl
  expr-case (Expr-F.«Expr::Decimal» digits) = refl
  expr-case (Expr-F.Sized size digits) = refl
  expr-case (Expr-F.SizeCast size cast) = refl
  expr-case (Expr-F.Based digits) = refl
  expr-case (Expr-F.Fill digit) = refl
  expr-case (Expr-F.«Expr::Parenthesized» opening inner closing cast) = refl
  expr-case (Expr-F.«Expr::Replication» opening times inner_opening items inner_closing closing) = refl
  expr-case (Expr-F.Stream opening operator at size inner_opening items inner_closing closing) = refl
  expr-case (Expr-F.«Expr::Pattern» tick opening pattern closing) = refl
  expr-case (Expr-F.SigningCast signing cast) = refl
  expr-case (Expr-F.SystemCall name opening argument closing) = refl
  expr-case (Expr-F.Call of opening arguments closing cast) = refl

  expr-level : (y : Expr-F (Alone Cast) (Alone Dimension) AnExpr (Alone Pattern) (Alone PatternItem) (Alone Select) (Alone SliceSize) (Alone ValueRange)) → OfExpr (roll-Expr (expr_in y))
  expr-level y = fold-roll-Expr Bool Bool Bool Bool Bool Bool Bool Bool N.cast_step N.dimension_step (N.expr_step s) N.pattern_step N.pattern_item_step N.select_step N.slice_step N.range_step (expr_in y) ∙ expr-case y

  actual-silent : (e : Expr) → OfExpr e
  actual-silent =
      ind-Expr AnyOf AnyOf OfExpr AnyOf AnyOf AnyOf AnyOf AnyOf (λ x y is. tt) (λ x y is. tt) (λ x y is. subst (λ z. OfExpr (roll-Expr z)) is (expr-level y)) (λ x y is. tt) (λ x y is. tt) (λ x y is. tt) (λ x y is. tt) (λ x y is. tt)

  actuals-silent : (es : List Expr) → all (map (actual_local s) es) ≡ true
  actuals-silent [] = refl
  actuals-silent (e ∷ es) = both (actual-silent e) (actuals-silent es)

  -- statements
  abbrev OfItem : BlockItem → Type 0
  OfItem x = item_local s x ≡ true

  abbrev OfChoice : CaseItem → Type 0
  OfChoice x = case_local s x ≡ true

  abbrev OfStmt : Stmt → Type 0
  OfStmt x = stmt_local s x ≡ true

  abbrev OfElse : Else → Type 0
  OfElse x = else_local s x ≡ true

  abbrev AnItem : Type 0
  AnItem = (x : BlockItem) × OfItem x

  abbrev AChoice : Type 0
  AChoice = (x : CaseItem) × OfChoice x

  abbrev AStmt : Type 0
  AStmt = (x : Stmt) × OfStmt x

  abbrev AnElse : Type 0
  AnElse = (x : Else) × OfElse x

  abbrev item_in : BlockItem-F AnItem AChoice AStmt AnElse → BlockItem-F BlockItem CaseItem Stmt Else
  item_in = map-BlockItem AnItem AChoice AStmt AnElse BlockItem CaseItem Stmt Else (λ e. e.0) (λ e. e.0) (λ e. e.0) (λ e. e.0)

  abbrev choice_in : CaseItem-F AnItem AChoice AStmt AnElse → CaseItem-F BlockItem CaseItem Stmt Else
  choice_in = map-CaseItem AnItem AChoice AStmt AnElse BlockItem CaseItem Stmt Else (λ e. e.0) (λ e. e.0) (λ e. e.0) (λ e. e.0)

  abbrev stmt_in : Stmt-F AnItem AChoice AStmt AnElse → Stmt-F BlockItem CaseItem Stmt Else
  stmt_in = map-Stmt AnItem AChoice AStmt AnElse BlockItem CaseItem Stmt Else (λ e. e.0) (λ e. e.0) (λ e. e.0) (λ e. e.0)

  abbrev else_in : Else-F AnItem AChoice AStmt AnElse → Else-F BlockItem CaseItem Stmt Else
  else_in = map-Else AnItem AChoice AStmt AnElse BlockItem CaseItem Stmt Else (λ e. e.0) (λ e. e.0) (λ e. e.0) (λ e. e.0)

  abbrev items_of : List AnItem → List BlockItem
  items_of ys = map (λ e. e.0) ys

  abbrev choices_of : List AChoice → List CaseItem
  choices_of ys = map (λ e. e.0) ys

  each-item : (ys : List AnItem) → all (map (item_local s) (items_of ys)) ≡ true
  each-item [] = refl
  each-item (y ∷ ys) = both y.1 (each-item ys)

  each-choice : (ys : List AChoice) → all (map (case_local s) (choices_of ys)) ≡ true
  each-choice [] = refl
  each-choice (y ∷ ys) = both y.1 (each-choice ys)

  abbrev level_item : BlockItem-F BlockItem CaseItem Stmt Else → Bool
  level_item z = N.item_step (map-BlockItem BlockItem CaseItem Stmt Else Bool Bool Bool Bool (item_local s) (case_local s) (stmt_local s) (else_local s) z)

  abbrev level_choice : CaseItem-F BlockItem CaseItem Stmt Else → Bool
  level_choice z = N.case_step (map-CaseItem BlockItem CaseItem Stmt Else Bool Bool Bool Bool (item_local s) (case_local s) (stmt_local s) (else_local s) z)

  abbrev level_stmt : Stmt-F BlockItem CaseItem Stmt Else → Bool
  level_stmt z = N.stmt_step s (map-Stmt BlockItem CaseItem Stmt Else Bool Bool Bool Bool (item_local s) (case_local s) (stmt_local s) (else_local s) z)

  item-case : (y : BlockItem-F AnItem AChoice AStmt AnElse) → level_item (item_in y) ≡ true
  item-case (BlockItem-F.Statement x) = x.1
  item-case (BlockItem-F.Parameters b) = refl
  item-case (BlockItem-F.Variables automatic v of ds semicolon) = refl
  item-case (BlockItem-F.NamedVariables of ss ds semicolon) = refl

  choice-case : (y : CaseItem-F AnItem AChoice AStmt AnElse) → level_choice (choice_in y) ≡ true
  choice-case (CaseItem-F.Values es colon body) = body.1
  choice-case (CaseItem-F.Default keyword colon body) = body.1

  stmt-case : (y : Stmt-F AnItem AChoice AStmt AnElse) → level_stmt (stmt_in y) ≡ true
  stmt-case (Stmt-F.Block begin label items end end_label) = each-item items
  stmt-case (Stmt-F.If promise keyword opening test closing body None) = both body.1 refl
  stmt-case (Stmt-F.If promise keyword opening test closing body (Some e)) = both body.1 e.1
  stmt-case (Stmt-F.Case promise keyword opening sought closing items end) = each-choice items
  stmt-case (Stmt-F.For keyword opening first first_semicolon test test_semicolon step closing body) = body.1
  stmt-case (Stmt-F.Break keyword semicolon) = refl
  stmt-case (Stmt-F.Continue keyword semicolon) = refl
  stmt-case (Stmt-F.Return keyword e semicolon) = refl
  stmt-case (Stmt-F.Call of opening arguments closing semicolon) = actuals-silent arguments
  stmt-case (Stmt-F.Assign to op at e semicolon) = lvalue-silent to
  stmt-case (Stmt-F.Postfix name ss op at semicolon) = silent (s.finds (simple_name name))
  stmt-case (Stmt-F.Prefix op at name ss semicolon) = silent (s.finds (simple_name name))
  stmt-case (Stmt-F.Empty semicolon) = refl

  item-level : (y : BlockItem-F AnItem AChoice AStmt AnElse) → OfItem (roll-BlockItem (item_in y))
  item-level y = fold-roll-BlockItem Bool Bool Bool Bool N.item_step N.case_step (N.stmt_step s) N.else_step (item_in y) ∙ item-case y

  choice-level : (y : CaseItem-F AnItem AChoice AStmt AnElse) → OfChoice (roll-CaseItem (choice_in y))
  choice-level y = fold-roll-CaseItem Bool Bool Bool Bool N.item_step N.case_step (N.stmt_step s) N.else_step (choice_in y) ∙ choice-case y

  stmt-level : (y : Stmt-F AnItem AChoice AStmt AnElse) → OfStmt (roll-Stmt (stmt_in y))
  stmt-level y = fold-roll-Stmt Bool Bool Bool Bool N.item_step N.case_step (N.stmt_step s) N.else_step (stmt_in y) ∙ stmt-case y

  else-level : (y : Else-F AnItem AChoice AStmt AnElse) → OfElse (roll-Else (else_in y))
  else-level y = fold-roll-Else Bool Bool Bool Bool N.item_step N.case_step (N.stmt_step s) N.else_step (else_in y) ∙ y.body.1

  item-silent : (x : BlockItem) → OfItem x
  item-silent =
      ind-BlockItem OfItem OfChoice OfStmt OfElse (λ x y is. subst (λ z. OfItem (roll-BlockItem z)) is (item-level y)) (λ x y is. subst (λ z. OfChoice (roll-CaseItem z)) is (choice-level y))
      (λ x y is. subst (λ z. OfStmt (roll-Stmt z)) is (stmt-level y)) (λ x y is. subst (λ z. OfElse (roll-Else z)) is (else-level y))

  pub items-silent : (xs : List BlockItem) → items_local s xs ≡ true
  items-silent [] = refl
  items-silent (x ∷ xs) = both (item-silent x) (items-silent xs)
