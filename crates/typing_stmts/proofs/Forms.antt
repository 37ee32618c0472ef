-- Statements and their items by their forms.
use Rattle.std.proofs.Common.{◌≡◌, ◌<◌, ◌&&◌, Bool, true, ℕ, zero, suc, List, [], ◌∷◌, length, get_or, map, Option, Some, None, refl, arith, sym, ap, ◌∙◌, subst}
use Rattle.std.specs.Prelude.{Result, Ok}
use Rattle.sv_tree.specs.declared.declarations.Declarator.{Declarator}
use Rattle.sv_tree.specs.declared.declarations.ParameterBody.{ParameterBody}
use Rattle.sv_tree.specs.declared.declarations.ParameterDeclaration.{ParameterDeclaration}
use Rattle.sv_tree.specs.declared.expressions.Expr.{Expr}
use Rattle.sv_tree.specs.declared.expressions.Select.{Select}
use Rattle.sv_tree.specs.declared.names.Label.{Label}
use Rattle.sv_tree.specs.declared.names.QualifiedName.{QualifiedName}
use Rattle.sv_tree.specs.declared.operators.AssignmentOperator.{AssignmentOperator}
use Rattle.sv_tree.specs.declared.operators.StepOperator.{StepOperator}
use Rattle.sv_tree.specs.declared.statements.BlockItem.{BlockItem, BlockItem-F, roll-BlockItem, map-BlockItem, fold-roll-BlockItem}
use Rattle.sv_tree.specs.declared.statements.BlockItem.TheVariants as B
use Rattle.sv_tree.specs.declared.statements.CaseItem.{CaseItem, CaseItem-F, roll-CaseItem, map-CaseItem, fold-roll-CaseItem}
use Rattle.sv_tree.specs.declared.statements.CaseItem.TheVariants as C
use Rattle.sv_tree.specs.declared.statements.CaseKeyword.{CaseKeyword}
use Rattle.sv_tree.specs.declared.statements.Else.{Else, out-Else, fold_out-Else}
use Rattle.sv_tree.specs.declared.statements.LoopStart.{LoopStart}
use Rattle.sv_tree.specs.declared.statements.LoopStep.{LoopStep}
use Rattle.sv_tree.specs.declared.statements.Lvalue.{Lvalue}
use Rattle.sv_tree.specs.declared.statements.Stmt.{Stmt, Stmt-F, roll-Stmt, map-Stmt, fold-roll-Stmt}
use Rattle.sv_tree.specs.declared.statements.Stmt.TheVariants as V
use Rattle.sv_tree.specs.declared.statements.UniquePriority.{UniquePriority}
use Rattle.sv_tree.specs.declared.types.TypeText.{TypeText}
use Rattle.sv_types.specs.declared.statement.Function.{Function}
use Rattle.sv_types.specs.declared.statement.Stmt as R
use Rattle.sv_types.specs.declared.statement.Stmt.TheVariants as M
use Rattle.expr_type.specs.declared.halt.Halt.{Halt}
use Rattle.expr_type.specs.Expressions.{meaning}
use Rattle.expr_type.specs.Names.{Context}
use Rattle.expr_type.specs.Statements as D
use Rattle.expr_type.specs.Statements.{BlockPart, CaseMeaning, PartMeaning, StmtMeaning, item_meaning, stmt_meaning}
use Rattle.expr_type.specs.Types.{typed_text}
use Rattle.expr_type.specs.Typings.{Typing, checked, whole}
use Rattle.stmt_laws.specs.Written as W
use Rattle.stmt_laws.specs.Written.{bodies_written, case_written, declarators_written, else_written, exprs_written, item_written, items_written, selects_written, start_written, step_written, stmt_written}
use Rattle.stmt_walks.specs.Written.{lvalue_written}
use Rattle.typing_calls.specs.Lists.{as_meant}
use Rattle.typing_actions.specs.ControlsWritten.{written_if}
use Rattle.typing_fits.proofs.Full.{and-left, and-right}
use Rattle.typing_declarations.specs.Branches.{chosen}
use Rattle.typing_declarations.specs.Loops.{looped}
use Rattle.typing_actions.specs.Walks.{assigned_to}
use Rattle.typing_steps.specs.Steps.{TypesTo}
use Rattle.typing_stmt_parts.specs.Items.{cases_of}
use Rattle.typing_stmt_parts.specs.Meanings.{case_meaning, else_meaning}
use Rattle.typing_stmt_parts.specs.Parts.{declared_part, statement_part}
use Rattle.typing_stmt_parts.proofs.Making.{some-types}
use Rattle.typing_walks.specs.Written.{is_written}
use Rattle.typing_walks.specs.WrittenTypes.{type_written}
use Rattle.typing_stmts.specs.Controls.{controlled}
use Rattle.typing_stmts.specs.Written.{cases_written, else_if_written, else_of}

abbrev StmtLevel : Type 0
StmtLevel = Stmt-F BlockItem CaseItem Stmt Else

abbrev ItemLevel : Type 0
ItemLevel = BlockItem-F BlockItem CaseItem Stmt Else

abbrev CaseLevel : Type 0
CaseLevel = CaseItem-F BlockItem CaseItem Stmt Else

-- what each form means, and which are written
abbrev stmt_level : StmtLevel → StmtMeaning
stmt_level z = D.stmt_step (map-Stmt BlockItem CaseItem Stmt Else PartMeaning CaseMeaning StmtMeaning StmtMeaning item_meaning case_meaning stmt_meaning else_meaning z)

abbrev item_level : ItemLevel → PartMeaning
item_level z = D.item_step (map-BlockItem BlockItem CaseItem Stmt Else PartMeaning CaseMeaning StmtMeaning StmtMeaning item_meaning case_meaning stmt_meaning else_meaning z)

abbrev stmt_parts : StmtLevel → Bool
stmt_parts z = W.stmt_step (map-Stmt BlockItem CaseItem Stmt Else Bool Bool Bool Bool item_written case_written stmt_written else_written z)

abbrev item_parts : ItemLevel → Bool
item_parts z = W.item_step (map-BlockItem BlockItem CaseItem Stmt Else Bool Bool Bool Bool item_written case_written stmt_written else_written z)

abbrev case_parts : CaseLevel → Bool
case_parts z = W.case_step (map-CaseItem BlockItem CaseItem Stmt Else Bool Bool Bool Bool item_written case_written stmt_written else_written z)

stmt-meant : (z : StmtLevel) (k : Context) (s : Stmt) (fs gs : List Function) (r : Result R.Stmt Halt) → s ≡ roll-Stmt z → TypesTo r (stmt_level z k fs) gs → TypesTo r (D.typed_stmt k s fs) gs
stmt-meant z k s fs gs r is h =
    subst (λ (m : StmtMeaning). TypesTo r (m k fs) gs) (sym (ap stmt_meaning is ∙ fold-roll-Stmt PartMeaning CaseMeaning StmtMeaning StmtMeaning D.item_step D.case_step D.stmt_step D.else_step z)) h

stmt-written : (z : StmtLevel) (s : Stmt) → s ≡ roll-Stmt z → stmt_written s ≡ true → stmt_parts z ≡ true
stmt-written z s is w = sym (ap stmt_written is ∙ fold-roll-Stmt Bool Bool Bool Bool W.item_step W.case_step W.stmt_step W.else_step z) ∙ w

item-meant : (z : ItemLevel) (k : Context) (x : BlockItem) (fs gs : List Function) (r : Result BlockPart Halt) → x ≡ roll-BlockItem z → TypesTo r (item_level z k fs) gs → TypesTo r (item_meaning x k fs) gs
item-meant z k x fs gs r is h =
    subst (λ (m : PartMeaning). TypesTo r (m k fs) gs) (sym (ap item_meaning is ∙ fold-roll-BlockItem PartMeaning CaseMeaning StmtMeaning StmtMeaning D.item_step D.case_step D.stmt_step D.else_step z)) h

item-written : (z : ItemLevel) (x : BlockItem) → x ≡ roll-BlockItem z → item_written x ≡ true → item_parts z ≡ true
item-written z x is w = sym (ap item_written is ∙ fold-roll-BlockItem Bool Bool Bool Bool W.item_step W.case_step W.stmt_step W.else_step z) ∙ w

case-written : (z : CaseLevel) (x : CaseItem) → x ≡ roll-CaseItem z → case_written x ≡ true → case_parts z ≡ true
case-written z x is w = sym (ap case_written is ∙ fold-roll-CaseItem Bool Bool Bool Bool W.item_step W.case_step W.stmt_step W.else_step z) ∙ w

-- blocks
module _ (begin : ℕ) (label : Option Label) (items : List BlockItem) (end : ℕ) (end_label : Option Label) (s : Stmt) (is : s ≡ V.Block begin label items end end_label) (xs : List BlockItem) (same : xs ≡ items) where
  abbrev block_form : StmtLevel
  block_form = Stmt-F.Block begin label items end end_label

  block-is : s ≡ roll-Stmt block_form
  block-is = is ∙ sym (V.rolls-Block begin label items end end_label)

  pub block-at : s ≡ V.Block begin label xs end end_label
  block-at = is ∙ ap (λ (ys : List BlockItem). V.Block begin label ys end end_label) (sym same)

  pub block-written : stmt_written s ≡ true → items_written xs ≡ true
  block-written w = subst (λ (ys : List BlockItem). items_written ys ≡ true) (sym same) (stmt-written block_form s block-is w)

  pub block-meant : (k : Context) (fs gs : List Function) (r : Result R.Stmt Halt) → TypesTo r (D.block k (map item_meaning xs) fs) gs → TypesTo r (D.typed_stmt k s fs) gs
  block-meant k fs gs r h = stmt-meant block_form k s fs gs r block-is (subst (λ (ys : List BlockItem). TypesTo r (D.block k (map item_meaning ys) fs) gs) same h)

-- an `if`, with what may stand behind its `else`
module _ (promise : Option UniquePriority) (keyword opening : ℕ) (test : Expr) (closing : ℕ) (body : Stmt) (other : Option Else) (s : Stmt) (is : s ≡ V.If promise keyword opening test closing body other) (b : Stmt) (same : b ≡ body) where
  abbrev if_form : Option Else → StmtLevel
  if_form o = Stmt-F.If promise keyword opening test closing body o

  if-is : s ≡ roll-Stmt (if_form other)
  if-is = is ∙ sym (V.rolls-If promise keyword opening test closing body other)

  pub if-at : s ≡ V.If promise keyword opening test closing b other
  if-at = is ∙ ap (λ (t : Stmt). V.If promise keyword opening test closing t other) (sym same)

  if-parts : (o : Option Else) → stmt_parts (if_form o) ≡ (is_written test && (stmt_written body && else_if_written o))
  if-parts None = refl
  if-parts (Some e) = refl

  if-written : stmt_written s ≡ true → (is_written test && (stmt_written body && else_if_written other)) ≡ true
  if-written w = sym (if-parts other) ∙ stmt-written (if_form other) s if-is w

  pub if-test : stmt_written s ≡ true → is_written test ≡ true
  if-test w = and-left (is_written test) (stmt_written body && else_if_written other) (if-written w)

  if-rest : stmt_written s ≡ true → (stmt_written body && else_if_written other) ≡ true
  if-rest w = and-right (is_written test) (stmt_written body && else_if_written other) (if-written w)

  pub if-body : stmt_written s ≡ true → stmt_written b ≡ true
  if-body w = subst (λ (t : Stmt). stmt_written t ≡ true) (sym same) (and-left (stmt_written body) (else_if_written other) (if-rest w))

  pub if-other : stmt_written s ≡ true → else_if_written other ≡ true
  if-other w = and-right (stmt_written body) (else_if_written other) (if-rest w)

  abbrev if_level : Context → Stmt → Option Else → Typing R.Stmt
  if_level k t o = chosen (D.condition k test) (stmt_meaning t k) (else_of k o)

  if-level : (k : Context) (o : Option Else) → stmt_level (if_form o) k ≡ if_level k body o
  if-level k None = refl
  if-level k (Some e) = refl

  pub if-meant : (k : Context) (fs gs : List Function) (r : Result R.Stmt Halt) → TypesTo r (chosen (D.condition k test) (stmt_meaning b k) (else_of k other) fs) gs → TypesTo r (D.typed_stmt k s fs) gs
  if-meant k fs gs r h =
      stmt-meant (if_form other) k s fs gs r if-is
      (subst (λ (x : Typing R.Stmt). TypesTo r (x fs) gs) (sym (if-level k other)) (subst (λ (t : Stmt). TypesTo r (if_level k t other fs) gs) same h))

-- `case` statements
module _ (promise : Option UniquePriority) (keyword : CaseKeyword) (opening : ℕ) (sought : Expr) (closing : ℕ) (items : List CaseItem) (end : ℕ) (s : Stmt) (is : s ≡ V.Case promise keyword opening sought closing items end)
    (xs : List CaseItem) (same : xs ≡ items) where
  abbrev case_form : StmtLevel
  case_form = Stmt-F.Case promise keyword opening sought closing items end

  case-is : s ≡ roll-Stmt case_form
  case-is = is ∙ sym (V.rolls-Case promise keyword opening sought closing items end)

  pub case-at : s ≡ V.Case promise keyword opening sought closing xs end
  case-at = is ∙ ap (λ (ys : List CaseItem). V.Case promise keyword opening sought closing ys end) (sym same)

  pub case-sought : stmt_written s ≡ true → is_written sought ≡ true
  case-sought w = and-left (is_written sought) (cases_written items) (stmt-written case_form s case-is w)

  pub case-items : stmt_written s ≡ true → cases_written xs ≡ true
  case-items w = subst (λ (ys : List CaseItem). cases_written ys ≡ true) (sym same) (and-right (is_written sought) (cases_written items) (stmt-written case_form s case-is w))

  pub case-meant : (k : Context) (fs gs : List Function) (r : Result R.Stmt Halt) → TypesTo r (cases_of k keyword sought xs fs) gs → TypesTo r (D.typed_stmt k s fs) gs
  case-meant k fs gs r h = stmt-meant case_form k s fs gs r case-is (subst (λ (ys : List CaseItem). TypesTo r (cases_of k keyword sought ys fs) gs) same h)

-- loops
module _ (keyword opening : ℕ) (first : LoopStart) (first_semicolon : ℕ) (test : Expr) (test_semicolon : ℕ) (step : LoopStep) (closing : ℕ) (body : Stmt) (s : Stmt)
    (is : s ≡ V.For keyword opening first first_semicolon test test_semicolon step closing body) (b : Stmt) (same : b ≡ body) where
  abbrev for_form : StmtLevel
  for_form = Stmt-F.For keyword opening first first_semicolon test test_semicolon step closing body

  for-is : s ≡ roll-Stmt for_form
  for-is = is ∙ sym (V.rolls-For keyword opening first first_semicolon test test_semicolon step closing body)

  pub for-at : s ≡ V.For keyword opening first first_semicolon test test_semicolon step closing b
  for-at = is ∙ ap (λ (t : Stmt). V.For keyword opening first first_semicolon test test_semicolon step closing t) (sym same)

  for-written : stmt_written s ≡ true → (start_written first && (is_written test && (step_written step && stmt_written body))) ≡ true
  for-written w = stmt-written for_form s for-is w

  pub for-start : stmt_written s ≡ true → start_written first ≡ true
  for-start w = and-left (start_written first) (is_written test && (step_written step && stmt_written body)) (for-written w)

  for-turn : stmt_written s ≡ true → (is_written test && (step_written step && stmt_written body)) ≡ true
  for-turn w = and-right (start_written first) (is_written test && (step_written step && stmt_written body)) (for-written w)

  pub for-test : stmt_written s ≡ true → is_written test ≡ true
  for-test w = and-left (is_written test) (step_written step && stmt_written body) (for-turn w)

  for-rest : stmt_written s ≡ true → (step_written step && stmt_written body) ≡ true
  for-rest w = and-right (is_written test) (step_written step && stmt_written body) (for-turn w)

  pub for-step : stmt_written s ≡ true → step_written step ≡ true
  for-step w = and-left (step_written step) (stmt_written body) (for-rest w)

  pub for-body : stmt_written s ≡ true → stmt_written b ≡ true
  for-body w = subst (λ (t : Stmt). stmt_written t ≡ true) (sym same) (and-right (step_written step) (stmt_written body) (for-rest w))

  abbrev for_level : Context → Stmt → Typing R.Stmt
  for_level k t = looped k keyword (D.loop_variable k first) (λ o. controlled (D.in_loop k o) o test step) (λ o. stmt_meaning t (D.in_loop k o))

  pub for-meant : (k : Context) (fs gs : List Function) (r : Result R.Stmt Halt) → TypesTo r (looped k keyword (D.loop_variable k first) (λ o. controlled (D.in_loop k o) o test step) (λ o. stmt_meaning b (D.in_loop k o)) fs) gs
      → TypesTo r (D.typed_stmt k s fs) gs
  for-meant k fs gs r h = stmt-meant for_form k s fs gs r for-is (subst (λ (t : Stmt). TypesTo r (for_level k t fs) gs) same h)

-- statements without parts that are typed
pub break-meant : (keyword semicolon : ℕ) (s : Stmt) → s ≡ V.Break keyword semicolon → (k : Context) (fs : List Function) → TypesTo (Ok M.Break) (D.typed_stmt k s fs) fs
break-meant keyword semicolon s is k fs = stmt-meant (Stmt-F.Break keyword semicolon) k s fs fs (Ok M.Break) (is ∙ sym (V.rolls-Break keyword semicolon)) refl

pub continue-meant : (keyword semicolon : ℕ) (s : Stmt) → s ≡ V.Continue keyword semicolon → (k : Context) (fs : List Function) → TypesTo (Ok M.Continue) (D.typed_stmt k s fs) fs
continue-meant keyword semicolon s is k fs = stmt-meant (Stmt-F.Continue keyword semicolon) k s fs fs (Ok M.Continue) (is ∙ sym (V.rolls-Continue keyword semicolon)) refl

pub empty-meant : (semicolon : ℕ) (s : Stmt) → s ≡ V.Empty semicolon → (k : Context) (fs : List Function) (u : R.Stmt) → u ≡ D.empty → TypesTo (Ok u) (D.typed_stmt k s fs) fs
empty-meant semicolon s is k fs u same =
    stmt-meant (Stmt-F.Empty semicolon) k s fs fs (Ok u) (is ∙ sym (V.rolls-Empty semicolon)) (subst (λ (t : R.Stmt). TypesTo (Ok t) (whole D.empty fs) fs) (sym same) refl)

-- `return`
module _ (keyword : ℕ) (value : Option Expr) (semicolon : ℕ) (s : Stmt) (is : s ≡ V.Return keyword value semicolon) (e : Option Expr) (same : e ≡ value) where
  return-is : s ≡ roll-Stmt (Stmt-F.Return keyword value semicolon)
  return-is = is ∙ sym (V.rolls-Return keyword value semicolon)

  pub return-written : stmt_written s ≡ true → written_if e ≡ true
  return-written w = subst (λ (o : Option Expr). written_if o ≡ true) (sym same) (stmt-written (Stmt-F.Return keyword value semicolon) s return-is w)

  pub return-meant : (k : Context) (fs gs : List Function) (r : Result R.Stmt Halt) → TypesTo r (D.returned k keyword e fs) gs → TypesTo r (D.typed_stmt k s fs) gs
  return-meant k fs gs r h = stmt-meant (Stmt-F.Return keyword value semicolon) k s fs gs r return-is (subst (λ (o : Option Expr). TypesTo r (D.returned k keyword o fs) gs) same h)

-- calls
module _ (of : QualifiedName) (opening : ℕ) (arguments : List Expr) (closing semicolon : ℕ) (s : Stmt) (is : s ≡ V.Call of opening arguments closing semicolon) (es : List Expr) (same : es ≡ arguments) where
  abbrev call_form : StmtLevel
  call_form = Stmt-F.Call of opening arguments closing semicolon

  call-is : s ≡ roll-Stmt call_form
  call-is = is ∙ sym (V.rolls-Call of opening arguments closing semicolon)

  pub call-written : stmt_written s ≡ true → exprs_written es ≡ true
  call-written w = subst (λ (ys : List Expr). exprs_written ys ≡ true) (sym same) (stmt-written call_form s call-is w)

  pub call-meant : (k : Context) (fs gs : List Function) (r : Result R.Stmt Halt) → TypesTo r (D.call_stmt k of (map meaning es) fs) gs → TypesTo r (D.typed_stmt k s fs) gs
  call-meant k fs gs r h = stmt-meant call_form k s fs gs r call-is (subst (λ (ys : List Expr). TypesTo r (D.call_stmt k of (map meaning ys) fs) gs) same h)

-- assignments
module _ (target : Lvalue) (operator : AssignmentOperator) (at : ℕ) (value : Expr) (semicolon : ℕ) (s : Stmt) (is : s ≡ V.Assign target operator at value semicolon) where
  abbrev assign_form : StmtLevel
  assign_form = Stmt-F.Assign target operator at value semicolon

  assign-is : s ≡ roll-Stmt assign_form
  assign-is = is ∙ sym (V.rolls-Assign target operator at value semicolon)

  pub assign-target : stmt_written s ≡ true → lvalue_written target ≡ true
  assign-target w = and-left (lvalue_written target) (is_written value) (stmt-written assign_form s assign-is w)

  pub assign-value : stmt_written s ≡ true → is_written value ≡ true
  assign-value w = and-right (lvalue_written target) (is_written value) (stmt-written assign_form s assign-is w)

  pub assign-meant : (k : Context) (fs gs : List Function) (r : Result R.Stmt Halt) → TypesTo r (assigned_to k true target at operator value fs) gs → TypesTo r (D.typed_stmt k s fs) gs
  assign-meant k fs gs r h = stmt-meant assign_form k s fs gs r assign-is h

-- `name++` and `++name`
module _ (name : ℕ) (selects : List Select) (operator : StepOperator) (at semicolon : ℕ) (s : Stmt) (is : s ≡ V.Postfix name selects operator at semicolon) (ss : List Select) (same : ss ≡ selects) where
  abbrev postfix_form : StmtLevel
  postfix_form = Stmt-F.Postfix name selects operator at semicolon

  postfix-is : s ≡ roll-Stmt postfix_form
  postfix-is = is ∙ sym (V.rolls-Postfix name selects operator at semicolon)

  pub postfix-written : stmt_written s ≡ true → selects_written ss ≡ true
  postfix-written w = subst (λ (ys : List Select). selects_written ys ≡ true) (sym same) (stmt-written postfix_form s postfix-is w)

  pub postfix-meant : (k : Context) (fs gs : List Function) (r : Result R.Stmt Halt) → TypesTo r (D.counted k name operator at ss fs) gs → TypesTo r (D.typed_stmt k s fs) gs
  postfix-meant k fs gs r h = stmt-meant postfix_form k s fs gs r postfix-is (subst (λ (ys : List Select). TypesTo r (D.counted k name operator at ys fs) gs) same h)

module _ (operator : StepOperator) (at name : ℕ) (selects : List Select) (semicolon : ℕ) (s : Stmt) (is : s ≡ V.Prefix operator at name selects semicolon) (ss : List Select) (same : ss ≡ selects) where
  abbrev prefix_form : StmtLevel
  prefix_form = Stmt-F.Prefix operator at name selects semicolon

  prefix-is : s ≡ roll-Stmt prefix_form
  prefix-is = is ∙ sym (V.rolls-Prefix operator at name selects semicolon)

  pub prefix-written : stmt_written s ≡ true → selects_written ss ≡ true
  prefix-written w = subst (λ (ys : List Select). selects_written ys ≡ true) (sym same) (stmt-written prefix_form s prefix-is w)

  pub prefix-meant : (k : Context) (fs gs : List Function) (r : Result R.Stmt Halt) → TypesTo r (D.counted k name operator at ss fs) gs → TypesTo r (D.typed_stmt k s fs) gs
  prefix-meant k fs gs r h = stmt-meant prefix_form k s fs gs r prefix-is (subst (λ (ys : List Select). TypesTo r (D.counted k name operator at ys fs) gs) same h)

-- what stands behind `else`
else-meant : (e : Else) → else_meaning e ≡ stmt_meaning (out-Else e).body
else-meant e = fold_out-Else PartMeaning CaseMeaning StmtMeaning StmtMeaning D.item_step D.case_step D.stmt_step D.else_step e

pub else-none : (k : Context) (o : Option Else) (fs : List Function) → o ≡ None → TypesTo (Ok None) (else_of k o fs) fs
else-none k o fs is = subst (λ (p : Option Else). TypesTo (Ok None) (else_of k p fs) fs) (sym is) refl

module _ (o : Option Else) (e : Else) (is : o ≡ Some e) where
  pub else-written : else_if_written o ≡ true → stmt_written (out-Else e).body ≡ true
  else-written w =
      sym (fold_out-Else Bool Bool Bool Bool W.item_step W.case_step W.stmt_step W.else_step e) ∙ subst (λ (p : Option Else). else_if_written p ≡ true) is w

  abbrev as_some : R.Stmt → Typing (Option R.Stmt)
  as_some u = whole (Some u)

  else-is : (k : Context) → else_of k o ≡ checked (stmt_meaning (out-Else e).body k) as_some
  else-is k = ap (else_of k) is ∙ ap (λ (m : StmtMeaning). checked (m k) as_some) (else-meant e)

  pub else-types : (k : Context) (fs gs : List Function) (s : Result R.Stmt Halt) (r : Result (Option R.Stmt) Halt) → r ≡ as_meant Some s → TypesTo s (D.typed_stmt k (out-Else e).body fs) gs → TypesTo r (else_of k o fs) gs
  else-types k fs gs s r made p = subst (λ (x : Typing (Option R.Stmt)). TypesTo r (x fs) gs) (sym (else-is k)) (some-types s r (stmt_meaning (out-Else e).body k) fs gs made p)

-- items of blocks
module _ (s : Stmt) (x : BlockItem) (is : x ≡ B.Statement s) where
  statement-is : x ≡ roll-BlockItem (BlockItem-F.Statement s)
  statement-is = is ∙ sym (B.rolls-Statement s)

  pub statement-written : item_written x ≡ true → stmt_written s ≡ true
  statement-written w = item-written (BlockItem-F.Statement s) x statement-is w

  pub statement-meant : (k : Context) (fs gs : List Function) (r : Result BlockPart Halt) → TypesTo r (statement_part (stmt_meaning s k) fs) gs → TypesTo r (item_meaning x k fs) gs
  statement-meant k fs gs r h = item-meant (BlockItem-F.Statement s) k x fs gs r statement-is h

module _ (p : ParameterDeclaration) (x : BlockItem) (is : x ≡ B.Parameters p) (bs : List ParameterBody) (same : bs ≡ p.bodies) where
  parameters-are : x ≡ roll-BlockItem (BlockItem-F.Parameters p)
  parameters-are = is ∙ sym (B.rolls-Parameters p)

  pub parameters-written : item_written x ≡ true → bodies_written bs ≡ true
  parameters-written w = subst (λ (ys : List ParameterBody). bodies_written ys ≡ true) (sym same) (item-written (BlockItem-F.Parameters p) x parameters-are w)

  pub parameters-meant : (k : Context) (fs gs : List Function) (r : Result BlockPart Halt) → TypesTo r (declared_part (D.parameters k (D.IsValue (D.OfValue None)) bs) fs) gs → TypesTo r (item_meaning x k fs) gs
  parameters-meant k fs gs r h =
      item-meant (BlockItem-F.Parameters p) k x fs gs r parameters-are (subst (λ (ys : List ParameterBody). TypesTo r (declared_part (D.parameters k (D.IsValue (D.OfValue None)) ys) fs) gs) same h)

module _ (automatic «var» : Option ℕ) (of : TypeText) (declarators : List Declarator) (semicolon : ℕ) (x : BlockItem) (is : x ≡ B.Variables automatic «var» of declarators semicolon) (ds : List Declarator) (same : ds ≡ declarators) where
  abbrev variables_form : ItemLevel
  variables_form = BlockItem-F.Variables automatic «var» of declarators semicolon

  variables-are : x ≡ roll-BlockItem variables_form
  variables-are = is ∙ sym (B.rolls-Variables automatic «var» of declarators semicolon)

  pub variables-type : item_written x ≡ true → type_written of ≡ true
  variables-type w = and-left (type_written of) (declarators_written declarators) (item-written variables_form x variables-are w)

  pub variables-written : item_written x ≡ true → declarators_written ds ≡ true
  variables-written w =
      subst (λ (ys : List Declarator). declarators_written ys ≡ true) (sym same) (and-right (type_written of) (declarators_written declarators) (item-written variables_form x variables-are w))

  pub variables-meant : (k : Context) (fs gs : List Function) (r : Result BlockPart Halt) → TypesTo r (declared_part (D.variables_of k (typed_text of k) ds) fs) gs → TypesTo r (item_meaning x k fs) gs
  variables-meant k fs gs r h =
      item-meant variables_form k x fs gs r variables-are (subst (λ (ys : List Declarator). TypesTo r (declared_part (D.variables_of k (typed_text of k) ys) fs) gs) same h)

module _ (of : ℕ) (selects : List Select) (declarators : List Declarator) (semicolon : ℕ) (x : BlockItem) (is : x ≡ B.NamedVariables of selects declarators semicolon) (ss : List Select) (same : ss ≡ selects) (ds : List Declarator)
    (also : ds ≡ declarators) where
  abbrev named_form : ItemLevel
  named_form = BlockItem-F.NamedVariables of selects declarators semicolon

  named-are : x ≡ roll-BlockItem named_form
  named-are = is ∙ sym (B.rolls-NamedVariables of selects declarators semicolon)

  pub named-selects : item_written x ≡ true → selects_written ss ≡ true
  named-selects w =
      subst (λ (ys : List Select). selects_written ys ≡ true) (sym same) (and-left (selects_written selects) (declarators_written declarators) (item-written named_form x named-are w))

  pub named-written : item_written x ≡ true → declarators_written ds ≡ true
  named-written w =
      subst (λ (ys : List Declarator). declarators_written ys ≡ true) (sym also) (and-right (selects_written selects) (declarators_written declarators) (item-written named_form x named-are w))

  pub named-meant : (k : Context) (fs gs : List Function) (r : Result BlockPart Halt) → TypesTo r (declared_part (D.variables_of k (D.selected_type k of ss) ds) fs) gs → TypesTo r (item_meaning x k fs) gs
  named-meant k fs gs r h =
      item-meant named_form k x fs gs r named-are
      (subst (λ (ys : List Declarator). TypesTo r (declared_part (D.variables_of k (D.selected_type k of selects) ys) fs) gs) also
      (subst (λ (ys : List Select). TypesTo r (declared_part (D.variables_of k (D.selected_type k of ys) ds) fs) gs) same h))

-- items of `case` statements
module _ (values : List Expr) (colon : ℕ) (body : Stmt) (x : CaseItem) (is : x ≡ C.Values values colon body) (es : List Expr) (same : es ≡ values) where
  pub values-are : x ≡ roll-CaseItem (CaseItem-F.Values es colon body)
  values-are = is ∙ ap (λ (ys : List Expr). C.Values ys colon body) (sym same) ∙ sym (C.rolls-Values es colon body)

  pub values-written : case_written x ≡ true → exprs_written es ≡ true
  values-written w = and-left (exprs_written es) (stmt_written body) (case-written (CaseItem-F.Values es colon body) x values-are w)

  pub values-body : case_written x ≡ true → stmt_written body ≡ true
  values-body w = and-right (exprs_written es) (stmt_written body) (case-written (CaseItem-F.Values es colon body) x values-are w)

module _ (keyword : ℕ) (colon : Option ℕ) (body : Stmt) (x : CaseItem) (is : x ≡ C.Default keyword colon body) where
  pub default-is : x ≡ roll-CaseItem (CaseItem-F.Default keyword colon body)
  default-is = is ∙ sym (C.rolls-Default keyword colon body)

  pub default-body : case_written x ≡ true → stmt_written body ≡ true
  default-body w = case-written (CaseItem-F.Default keyword colon body) x default-is w

-- items in a row
pub items-at : (xs : List BlockItem) (i : ℕ) (x : BlockItem) → items_written xs ≡ true → i < length xs → x ≡ get_or xs i x → item_written x ≡ true
items-at [] i x w within is = absurd (omega arith)
items-at (y ∷ ys) zero x w within is = subst (λ (z : BlockItem). item_written z ≡ true) (sym is) (and-left (item_written y) (items_written ys) w)
items-at (y ∷ ys) (suc i) x w within is = items-at ys i x (and-right (item_written y) (items_written ys) w) (omega arith) is

pub cases-at : (xs : List CaseItem) (i : ℕ) (x : CaseItem) → cases_written xs ≡ true → i < length xs → x ≡ get_or xs i x → case_written x ≡ true
cases-at [] i x w within is = absurd (omega arith)
cases-at (y ∷ ys) zero x w within is = subst (λ (z : CaseItem). case_written z ≡ true) (sym is) (and-left (case_written y) (cases_written ys) w)
cases-at (y ∷ ys) (suc i) x w within is = cases-at ys i x (and-right (case_written y) (cases_written ys) w) (omega arith) is
