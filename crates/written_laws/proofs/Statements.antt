-- The targets and statements that are read from a text are written.
use Rattle.std.proofs.Common.{◌≡◌, ℕ, zero, suc, Bool, true, ◌==◌, List, [], ◌∷◌, map, drop, Option, Some, None, refl, rules, sym, ap, ◌∙◌, subst}
use Rattle.std.specs.Option.{option_map}
use Rattle.std.proofs.lemmas.Bool.{eqb-true}
use Rattle.ll_engine.specs.declared.tree.Tree.{Tree}
use Rattle.sv_tree.specs.Heads as head
use Rattle.sv_tree.specs.declared.expressions.Expr.{Expr}
use Rattle.sv_tree.specs.declared.names.QualifiedName.{QualifiedName}
use Rattle.sv_tree.specs.declared.statements.BlockItem.{BlockItem, BlockItem-F, roll-BlockItem, map-BlockItem, fold-roll-BlockItem}
use Rattle.sv_tree.specs.declared.statements.BlockItem.TheVariants as I
use Rattle.sv_tree.specs.declared.statements.CaseItem.{CaseItem, CaseItem-F, roll-CaseItem, map-CaseItem, fold-roll-CaseItem}
use Rattle.sv_tree.specs.declared.statements.CaseItem.TheVariants as C
use Rattle.sv_tree.specs.declared.statements.Else.{Else}
use Rattle.sv_tree.specs.declared.statements.Lvalue.{Lvalue}
use Rattle.sv_tree.specs.declared.statements.Lvalue.TheVariants as V
use Rattle.sv_tree.specs.declared.statements.Stmt.{Stmt, Stmt-F, roll-Stmt, map-Stmt, fold-roll-Stmt, the_lemmas}
use Rattle.sv_tree.specs.declared.statements.Stmt.TheVariants as S
use Rattle.sv_tree.specs.declared.statements.UniquePriority.{UniquePriority}
use Rattle.typing_walks.specs.Written.{all, some_and_all, if_there, is_written}
use Rattle.stmt_walks.specs.Written.{lvalue_written}
use Rattle.stmt_laws.specs.Written as W
use Rattle.stmt_laws.specs.Written.{declarators_written, exprs_written, selects_written, start_written, step_written, stmt_written, item_written, case_written, else_written, items_written}
use Rattle.sv_build.specs.declared.rows.TheConstants as R
use Rattle.sv_build.specs.declared.variables.VariableText.{VariableText}
use Rattle.sv_build.specs.Statements as X
use Rattle.expr_build.specs.Nodes.{kids_of, kid, token, row_of, separated, behind_marks}
use Rattle.expr_build.specs.Expressions.{expr_of, nesting_limit}
use Rattle.written_laws.proofs.Tests.{both, by-test, by-either}
use Rattle.written_laws.proofs.Nodes.{OfHead, Good, AllGood, AllOf, good, kid-good, kids-good, drop-good}
use Rattle.written_laws.proofs.Rows as N
use Rattle.written_laws.proofs.Lists as L
use Rattle.written_laws.proofs.Lists.{Written}
use Rattle.written_laws.proofs.Levels.{lvalue-is}
use Rattle.written_laws.proofs.Expressions.{expr-written, all-exprs, all-selects, slice-size-written}
use Rattle.written_laws.proofs.Types as Y
use Rattle.written_laws.proofs.Declarations.{parameters-written, variables_written, variable-text, variables-of}

-- targets
abbrev pub ReadsHead : ℕ → (Tree → Lvalue) → Type 0
ReadsHead h read = (t : Tree) → OfHead h t → lvalue_written (read t) ≡ true

name-lvalue : (name : ℕ) (t : Tree) → Good t → lvalue_written (X.name_lvalue name t) ≡ true
name-lvalue name t g = lvalue-is _ (V.rolls-Name _ _) (all-selects t g)

module _ (inner : Tree → Lvalue) (ok : ReadsHead head.lvalue_concatenation inner) where
  lvalue-with : ReadsHead head.variable_lvalue (X.lvalue_with inner)
  lvalue-with t o =
      by-test lvalue_written (row_of t == R.NAME_LVALUE) _ _ (λ e. name-lvalue (token 0 t) (kid 1 t) (kid-good 1 t (good o)))
      (λ n. ok (kid 0 t) (N.lvalue-concatenation t o n))

  behind-lvalues : (ts : List Tree) → AllOf head.next_lvalue ts → all (map lvalue_written (behind_marks (X.lvalue_with inner) ts)) ≡ true
  behind-lvalues [] a = refl
  behind-lvalues (t ∷ ts) a = both (lvalue-with (kid 1 t) (N.next-lvalue t a.0)) (behind-lvalues ts a.1)

  lvalues-written : (t : Tree) → OfHead head.variable_lvalues t → some_and_all (map lvalue_written (X.lvalues_of inner t)) ≡ true
  lvalues-written t o =
      let list = N.lvalues t o in
      subst (λ (ts : List Tree). some_and_all (map lvalue_written (separated (X.lvalue_with inner) ts)) ≡ true) (sym list.is)
      (both (lvalue-with list.first list.of) (behind-lvalues list.others list.rest))

  concatenated-from : (opening : ℕ) → ReadsHead head.lvalue_concatenation_rest (X.concatenated_from inner opening)
  concatenated-from opening t o =
      by-test lvalue_written (row_of t == R.PLAIN_LVALUES) _ _
      (λ e. lvalue-is _ (V.rolls-Concatenation _ _ _) (lvalues-written (kid 0 t) (N.plain-lvalues t o (eqb-true (row_of t) R.PLAIN_LVALUES e))))
      (λ n. lvalue-is _ (V.rolls-Stream _ _ _ _ _ _ _ _)
      (both (slice-size-written expr_of expr-written (kid 1 t) (kid-good 1 t (good o))) (lvalues-written (kid 3 t) (N.stream-lvalues t o n))))

concatenated-within : (depth : ℕ) → ReadsHead head.lvalue_concatenation (X.concatenated_within depth)
unfolding X.concatenated_within
concatenated-within zero t o = lvalue-is _ (V.rolls-Name _ _) refl
concatenated-within (suc depth) t o = concatenated-from (X.concatenated_within depth) (concatenated-within depth) (token 0 t) (kid 1 t) (N.concatenation-rest t o)

concatenated-written : ReadsHead head.lvalue_concatenation X.concatenated_of
concatenated-written t o = concatenated-within nesting_limit t o

pub lvalue-written : ReadsHead head.variable_lvalue X.lvalue_of
lvalue-written t o = lvalue-with X.concatenated_of concatenated-written t o

-- statements, level by level
stmt-is : {s : Stmt} (z : Stmt-F BlockItem CaseItem Stmt Else) → roll-Stmt z ≡ s → W.stmt_step (map-Stmt BlockItem CaseItem Stmt Else Bool Bool Bool Bool item_written case_written stmt_written else_written z) ≡ true
    → stmt_written s ≡ true
stmt-is z r w = ap stmt_written (sym r) ∙ fold-roll-Stmt Bool Bool Bool Bool W.item_step W.case_step W.stmt_step W.else_step z ∙ w

item-is : {x : BlockItem} (z : BlockItem-F BlockItem CaseItem Stmt Else) → roll-BlockItem z ≡ x → W.item_step (map-BlockItem BlockItem CaseItem Stmt Else Bool Bool Bool Bool item_written case_written stmt_written else_written z) ≡ true
    → item_written x ≡ true
item-is z r w = ap item_written (sym r) ∙ fold-roll-BlockItem Bool Bool Bool Bool W.item_step W.case_step W.stmt_step W.else_step z ∙ w

case-is : {x : CaseItem} (z : CaseItem-F BlockItem CaseItem Stmt Else) → roll-CaseItem z ≡ x → W.case_step (map-CaseItem BlockItem CaseItem Stmt Else Bool Bool Bool Bool item_written case_written stmt_written else_written z) ≡ true
    → case_written x ≡ true
case-is z r w = ap case_written (sym r) ∙ fold-roll-CaseItem Bool Bool Bool Bool W.item_step W.case_step W.stmt_step W.else_step z ∙ w

else-level : (x : Else) → else_written x ≡ stmt_written x.body
else-level x = search (rules, the_lemmas)

if-form : (promise : Option UniquePriority) (keyword opening : ℕ) (test : Expr) (closing : ℕ) (body : Stmt) (o : Option Else) → is_written test ≡ true → stmt_written body ≡ true
    → if_there (option_map else_written o) ≡ true → stmt_written (S.If promise keyword opening test closing body o) ≡ true
if-form promise keyword opening test closing body None u v w = stmt-is _ (S.rolls-If promise keyword opening test closing body None) (both u (both v refl))
if-form promise keyword opening test closing body (Some e) u v w = stmt-is _ (S.rolls-If promise keyword opening test closing body (Some e)) (both u (both v w))

-- assignments, calls and loops
name-assigned : (name : ℕ) (selects t : Tree) (semicolon : ℕ) → Good selects → Good t → stmt_written (X.name_assigned name selects t semicolon) ≡ true
name-assigned name selects t semicolon g h =
    by-either stmt_written (row_of t == R.ASSIGNMENT) _ _
    (stmt-is _ (S.rolls-Assign _ _ _ _ _) (both (name-lvalue name selects g) (expr-written (kid 1 t) (kid-good 1 t h))))
    (stmt-is _ (S.rolls-Postfix _ _ _ _ _) (all-selects selects g))

call-written : (name : QualifiedName) (t : Tree) (semicolon : ℕ) → Good t → stmt_written (X.call_of name t semicolon) ≡ true
call-written name t semicolon g = stmt-is _ (S.rolls-Call _ _ _ _ _) (all-exprs (kid 1 t) (kid-good 1 t g))

start-written : Written start_written X.loop_start_of
start-written t g =
    by-either start_written (row_of t == R.KEYWORD_LOOP) _ _ (both (Y.keyword-written (kid 0 t) (kid 1 t) (kid-good 1 t g)) (expr-written (kid 4 t) (kid-good 4 t g)))
    (both (Y.named-written _ (kid 2 t) (kid-good 2 t g)) (expr-written (kid 5 t) (kid-good 5 t g)))

name-step : (name : ℕ) → Written step_written (X.name_step name)
name-step name t g = by-either step_written (row_of t == R.ASSIGNMENT) _ _ (expr-written (kid 1 t) (kid-good 1 t g)) refl

pub step-written : Written step_written X.loop_step_of
step-written t g = by-either step_written (row_of t == R.ASSIGNMENT_STEP) _ _ (name-step (token 0 t) (kid 1 t) (kid-good 1 t g)) refl

pub optional-written : (t : Tree) → Good t → if_there (option_map is_written (X.optional_expr_of t)) ≡ true
optional-written t g = L.if-read is_written (λ some. expr_of (kid 0 some)) (λ x h. expr-written (kid 0 x) (kid-good 0 x h)) t g

concatenation-assigned : (t : Tree) → Good t → (row_of t == R.CONCATENATION_ASSIGNMENT) ≡ true → stmt_written (X.concatenation_assigned t) ≡ true
concatenation-assigned t g e =
    stmt-is _ (S.rolls-Assign _ _ _ _ _)
    (both (concatenated-written (kid 0 t) (N.assigned-concatenation t g (eqb-true (row_of t) R.CONCATENATION_ASSIGNMENT e))) (expr-written (kid 2 t) (kid-good 2 t g)))

-- variables of a block
block-variables : (automatic v : Option ℕ) (text : VariableText) (semicolon : ℕ) → variables_written text ≡ true → item_written (X.block_variables automatic v text semicolon) ≡ true
block-variables automatic v text semicolon w = item-is _ (I.rolls-Variables _ _ _ _ _) w

automatic-item : (automatic : ℕ) (t : Tree) (semicolon : ℕ) → Good t → item_written (X.automatic_item automatic t semicolon) ≡ true
automatic-item automatic t semicolon g =
    by-either item_written (row_of t == R.PLAIN_AUTOMATIC) _ _ (block-variables _ _ _ semicolon (variable-text (kid 0 t) (kid-good 0 t g)))
    (block-variables _ _ _ semicolon (variable-text (kid 1 t) (kid-good 1 t g)))

statement-in : (s : Stmt) → stmt_written s ≡ true → item_written (I.Statement s) ≡ true
statement-in s w = item-is _ (I.rolls-Statement _) w

scoped-item : (name : QualifiedName) (t : Tree) → Good t → item_written (X.scoped_item name t) ≡ true
scoped-item name t g =
    by-either item_written (row_of t == R.SCOPED_CALL_ITEM) _ _ (statement-in _ (call-written name (kid 0 t) (token 1 t) (kid-good 0 t g)))
    (block-variables _ _ _ (token 2 t) (variables-of _ (kid 1 t) (Y.named-written name (kid 0 t) (kid-good 0 t g)) (kid-good 1 t g)))

selected-item : (name : ℕ) (selects t : Tree) → Good selects → Good t → item_written (X.selected_item name selects t) ≡ true
selected-item name selects t g h =
    by-either item_written (row_of t == R.ASSIGNMENT_ITEM) _ _ (statement-in _ (name-assigned name selects (kid 0 t) (token 1 t) g (kid-good 0 t h)))
    (item-is _ (I.rolls-NamedVariables _ _ _ _) (both (all-selects selects g) (Y.declarators-written (kid 0 t) (kid-good 0 t h))))

name-item : (name : ℕ) → Written item_written (X.name_item name)
name-item name t g =
    by-either item_written (row_of t == R.CALL_ITEM) _ _ (statement-in _ (call-written _ (kid 0 t) (token 1 t) (kid-good 0 t g)))
    (by-either item_written (row_of t == R.SCOPED_ITEM) _ _ (scoped-item _ (kid 2 t) (kid-good 2 t g)) (selected-item name (kid 0 t) (kid 1 t) (kid-good 0 t g) (kid-good 1 t g)))

declaration-item : Written item_written X.declaration_item
declaration-item t g =
    by-either item_written (row_of t == R.PARAMETERS_ITEM) _ _ (item-is _ (I.rolls-Parameters _) (parameters-written (kid 0 t) (token 1 t) (kid-good 0 t g)))
    (by-either item_written (row_of t == R.AUTOMATIC_ITEM) _ _ (automatic-item (token 0 t) (kid 1 t) (token 2 t) (kid-good 1 t g))
    (by-either item_written (row_of t == R.KEYWORD_ITEM) _ _
    (block-variables _ _ _ (token 3 t) (variables-of _ (kid 2 t) (Y.keyword-written (kid 0 t) (kid 1 t) (kid-good 1 t g)) (kid-good 2 t g)))
    (by-either item_written (row_of t == R.AGGREGATE_ITEM) _ _
    (block-variables _ _ _ (token 3 t) (variables-of _ (kid 2 t) (Y.aggregate-written (kid 0 t) (kid 1 t) (kid-good 0 t g) (kid-good 1 t g)) (kid-good 2 t g)))
    (by-either item_written (row_of t == R.VAR_ITEM) _ _ (block-variables _ _ _ (token 2 t) (variable-text (kid 1 t) (kid-good 1 t g))) (name-item (token 0 t) (kid 1 t) (kid-good 1 t g))))))

-- statements around these
module _ (inner : Tree → Stmt) (items : Tree → BlockItem) (ok : Written stmt_written inner) (oks : Written item_written items) where
  else-from : Written else_written (X.else_from inner)
  else-from t g = else-level (X.else_from inner t) ∙ ok (kid 1 t) (kid-good 1 t g)

  else-written : (ts : List Tree) → AllGood ts → if_there (option_map else_written (X.else_of inner ts)) ≡ true
  else-written [] g = refl
  else-written (t ∷ ts) g = else-from t g.0

  if-written : (promise : Option UniquePriority) (test : Expr) (t : Tree) → is_written test ≡ true → Good t → stmt_written (X.if_with inner promise test t) ≡ true
  if-written promise test t w g =
      if-form _ _ _ _ _ _ _ w (ok (kid 4 t) (kid-good 4 t g)) (else-written (drop 5 (kids_of t)) (drop-good 5 (kids_of t) (kids-good t g)))

  values-item : Written case_written (X.values_item inner)
  values-item t g = case-is _ (C.rolls-Values _ _ _) (both (all-exprs (kid 0 t) (kid-good 0 t g)) (ok (kid 2 t) (kid-good 2 t g)))

  default-item : Written case_written (X.default_item inner)
  default-item t g = case-is _ (C.rolls-Default _ _ _) (ok (kid 2 t) (kid-good 2 t g))

  all-values : (ts : List Tree) → AllGood ts → all (map case_written (map (X.values_item inner) ts)) ≡ true
  all-values ts g = L.all-map case_written (X.values_item inner) values-item ts g

  from-default : (ts : List Tree) → AllGood ts → all (map case_written (X.from_default inner ts)) ≡ true
  from-default [] g = refl
  from-default (t ∷ ts) g = both (default-item t g.0) (all-values ts g.1)

  cases-written : (t : Tree) → Good t → all (map case_written (X.case_items_of inner t)) ≡ true
  cases-written t g =
      by-either (λ (xs : List CaseItem). all (map case_written xs)) (row_of t == R.ITEMS_FIRST) _ _
      (both (values-item (kid 0 t) (kid-good 0 t g))
      (L.all-joined case_written (map (X.values_item inner) (kids_of (kid 1 t))) (X.from_default inner (kids_of (kid 2 t))) (all-values (kids_of (kid 1 t)) (kids-good (kid 1 t) (kid-good 1 t g)))
      (from-default (kids_of (kid 2 t)) (kids-good (kid 2 t) (kid-good 2 t g)))))
      (from-default (kids_of t) (kids-good t g))

  case-written : (promise : Option UniquePriority) (sought : Expr) (t : Tree) → is_written sought ≡ true → Good t → stmt_written (X.case_with inner promise sought t) ≡ true
  case-written promise sought t w g = stmt-is _ (S.rolls-Case _ _ _ _ _ _ _) (both w (cases-written (kid 4 t) (kid-good 4 t g)))

  conditional-written : (promise : Option UniquePriority) → Written stmt_written (X.conditional_of inner promise)
  conditional-written promise t g =
      let test = expr-written (kid 2 t) (kid-good 2 t g) in
      by-either stmt_written (row_of t == R.IF) _ _ (if-written promise _ t test g) (case-written promise _ t test g)

  for-written : Written stmt_written (X.for_of inner)
  for-written t g =
      stmt-is _ (S.rolls-For _ _ _ _ _ _ _ _ _)
      (both (start-written (kid 2 t) (kid-good 2 t g)) (both (expr-written (kid 4 t) (kid-good 4 t g)) (both (step-written (kid 6 t) (kid-good 6 t g)) (ok (kid 8 t) (kid-good 8 t g)))))

  block-written : Written stmt_written (X.block_of items)
  block-written t g = stmt-is _ (S.rolls-Block _ _ _ _ _) (L.all-kids item_written items oks (kid 2 t) (kid-good 2 t g))

  return-written : Written stmt_written X.return_of
  return-written t g = stmt-is _ (S.rolls-Return _ _ _) (optional-written (kid 1 t) (kid-good 1 t g))

  prefix-written : Written stmt_written X.prefix_of
  prefix-written t g = stmt-is _ (S.rolls-Prefix _ _ _ _ _) (all-selects (kid 2 t) (kid-good 2 t g))

  statement-item : Written stmt_written (X.statement_item_of inner items)
  statement-item t g =
      by-either stmt_written (row_of t == R.BLOCK) _ _ (block-written t g)
      (by-either stmt_written (row_of t == R.CONDITIONAL) _ _ (conditional-written None (kid 0 t) (kid-good 0 t g))
      (by-either stmt_written (row_of t == R.PROMISED_CONDITIONAL) _ _ (conditional-written _ (kid 1 t) (kid-good 1 t g))
      (by-either stmt_written (row_of t == R.FOR) _ _ (for-written t g)
      (by-either stmt_written (row_of t == R.BREAK) _ _ (stmt-is _ (S.rolls-Break _ _) refl)
      (by-either stmt_written (row_of t == R.CONTINUE) _ _ (stmt-is _ (S.rolls-Continue _ _) refl)
      (by-either stmt_written (row_of t == R.RETURN) _ _ (return-written t g)
      (by-test stmt_written (row_of t == R.CONCATENATION_ASSIGNMENT) _ _ (λ e. concatenation-assigned t g e)
      (λ n. by-either stmt_written (row_of t == R.PREFIX) _ _ (prefix-written t g) (stmt-is _ (S.rolls-Empty _) refl)))))))))

  name-statement : (name : ℕ) → Written stmt_written (X.name_statement name)
  name-statement name t g =
      by-either stmt_written (row_of t == R.CALL_STATEMENT) _ _ (call-written _ (kid 0 t) (token 1 t) (kid-good 0 t g))
      (by-either stmt_written (row_of t == R.SCOPED_CALL_STATEMENT) _ _ (call-written _ (kid 2 t) (token 3 t) (kid-good 2 t g))
      (name-assigned name (kid 0 t) (kid 1 t) (token 2 t) (kid-good 0 t g) (kid-good 1 t g)))

  statement-of : Written stmt_written (X.statement_of inner items)
  statement-of t g =
      by-either stmt_written (row_of t == R.PLAIN_STATEMENT) _ _ (statement-item (kid 0 t) (kid-good 0 t g)) (name-statement (token 0 t) (kid 1 t) (kid-good 1 t g))

  block-item : Written item_written (X.block_item_of inner items)
  block-item t g =
      by-either item_written (row_of t == R.STATEMENT_ITEM) _ _ (statement-in _ (statement-item (kid 0 t) (kid-good 0 t g))) (declaration-item t g)

-- statements and items of blocks, however deep
record BothWritten (r : X.Readers) : Type 0 where
  stmt : Written stmt_written r.stmt
  item : Written item_written r.item

inside-written : (depth : ℕ) → BothWritten (X.inside depth)
unfolding X.inside
inside-written zero = record {
  stmt = λ t g. stmt-is _ (S.rolls-Empty _) refl;
  item = λ t g. statement-in _ (stmt-is _ (S.rolls-Empty _) refl);
}
inside-written (suc depth) =
    let before = inside-written depth in
    record {
      stmt = λ t g. statement-of (X.inside depth).stmt (X.inside depth).item before.stmt before.item t g;
      item = λ t g. block-item (X.inside depth).stmt (X.inside depth).item before.stmt before.item t g;
    }

pub stmt-written : Written stmt_written X.stmt_of
stmt-written t g = (inside-written nesting_limit).stmt t g

pub block-items-written : (t : Tree) → Good t → items_written (X.block_items_of t) ≡ true
block-items-written t g = L.all-kids item_written (X.inside nesting_limit).item (inside-written nesting_limit).item t g
