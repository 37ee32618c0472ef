-- Statements and the items of blocks, by the rows that they were read by.
use Rattle.std.specs.Prelude.{ℕ, zero, suc, ◌==◌, List, [], ◌∷◌, ◌++◌, map, drop, Option, Some, None, if◌then◌else◌}
use Rattle.ll_engine.specs.declared.tree.Tree.{Tree}
use Rattle.sv_tree.specs.declared.expressions.Expr.{Expr}
use Rattle.sv_tree.specs.declared.expressions.Select.{Select}
use Rattle.sv_tree.specs.declared.names.QualifiedName.{QualifiedName}
use Rattle.sv_tree.specs.declared.statements.BlockItem.{BlockItem}
use Rattle.sv_tree.specs.declared.statements.BlockItem.TheVariants as I
use Rattle.sv_tree.specs.declared.statements.CaseItem.{CaseItem}
use Rattle.sv_tree.specs.declared.statements.CaseItem.TheVariants as C
use Rattle.sv_tree.specs.declared.statements.Else.{Else}
use Rattle.sv_tree.specs.declared.statements.LoopStart.{LoopStart}
use Rattle.sv_tree.specs.declared.statements.LoopStep.{LoopStep}
use Rattle.sv_tree.specs.declared.statements.LoopStep.TheVariants as P
use Rattle.sv_tree.specs.declared.statements.Lvalue.{Lvalue}
use Rattle.sv_tree.specs.declared.statements.Lvalue.TheVariants as L
use Rattle.sv_tree.specs.declared.statements.Stmt.{Stmt}
use Rattle.sv_tree.specs.declared.statements.Stmt.TheVariants as S
use Rattle.sv_tree.specs.declared.statements.UniquePriority.{UniquePriority}
use Rattle.sv_tree.specs.declared.types.TypeText.{TypeText}
use Rattle.sv_build.specs.declared.loops.LoopControl.{LoopControl}
use Rattle.sv_build.specs.declared.variables.VariableText.{VariableText}
use Rattle.sv_build.specs.declared.rows.TheConstants as R
use Rattle.sv_build.specs.Words.{label_of, step_operator_by, assignment_operator_by, promise_of, case_keyword_of}
use Rattle.sv_build.specs.Declarations.{parameters_of, variables_of, variable_text_of}
use Rattle.expr_build.specs.Nodes.{kids_of, kid, token, row_of, optional, is_blank, separated}
use Rattle.expr_build.specs.Words.{qualified_of, stream_operator_by}
use Rattle.expr_build.specs.Expressions.{expr_of, exprs_of, selects_of, slice_size_of, nesting_limit}
use Rattle.expr_build.specs.Types.{declarators_of, keyword_text, named_text, alone, scoped, aggregate_text}

-- What is assigned. `inner` gives the concatenations inside.
abbrev pub name_lvalue : ℕ → Tree → Lvalue
name_lvalue name t = L.Name name (selects_of expr_of t)

abbrev pub lvalue_with : (Tree → Lvalue) → Tree → Lvalue
lvalue_with inner t = if row_of t == R.NAME_LVALUE then name_lvalue (token 0 t) (kid 1 t) else inner (kid 0 t)

abbrev pub lvalues_of : (Tree → Lvalue) → Tree → List Lvalue
lvalues_of inner t = separated (lvalue_with inner) (kids_of t)

abbrev pub lvalue_stream_of : (Tree → Lvalue) → ℕ → Tree → Lvalue
lvalue_stream_of inner opening t =
    L.Stream opening (stream_operator_by (row_of (kid 0 t))) (token 0 (kid 0 t)) (slice_size_of expr_of (kid 1 t)) (token 2 t) (lvalues_of inner (kid 3 t)) (token 4 t) (token 5 t)

abbrev pub concatenated_from : (Tree → Lvalue) → ℕ → Tree → Lvalue
concatenated_from inner opening t =
    if row_of t == R.PLAIN_LVALUES then L.Concatenation opening (lvalues_of inner (kid 0 t)) (token 1 t)
    else lvalue_stream_of inner opening t

-- a concatenation in which concatenations nest at most so deep; none nests deeper in a text
unfoldable pub concatenated_within : ℕ → Tree → Lvalue
concatenated_within zero t = L.Name 0 []
concatenated_within (suc depth) t = concatenated_from (concatenated_within depth) (token 0 t) (kid 1 t)

abbrev pub concatenated_of : Tree → Lvalue
concatenated_of t = concatenated_within nesting_limit t

abbrev pub lvalue_of : Tree → Lvalue
lvalue_of t = lvalue_with concatenated_of t

-- an assignment, by its operator and its value
abbrev pub assigned : Lvalue → Tree → Tree → ℕ → Stmt
assigned target operator value semicolon = S.Assign target (assignment_operator_by (row_of operator)) (token 0 operator) (expr_of value) semicolon

-- an assignment to a name with selects, or a step of it
abbrev pub name_assigned : ℕ → Tree → Tree → ℕ → Stmt
name_assigned name selects t semicolon =
    if row_of t == R.ASSIGNMENT then assigned (name_lvalue name selects) (kid 0 t) (kid 1 t) semicolon
    else S.Postfix name (selects_of expr_of selects) (step_operator_by (row_of (kid 0 t))) (token 0 (kid 0 t)) semicolon

-- a call that stands as a statement
abbrev pub call_of : QualifiedName → Tree → ℕ → Stmt
call_of name t semicolon = S.Call name (token 0 t) (exprs_of expr_of (kid 1 t)) (token 2 t) semicolon

-- a loop's variable and its step
abbrev pub loop_start : TypeText → ℕ → ℕ → Tree → LoopStart
loop_start of name equals value = record { of = of; name = name; equals = equals; value = expr_of value }

abbrev pub loop_start_of : Tree → LoopStart
loop_start_of t =
    if row_of t == R.KEYWORD_LOOP then loop_start (keyword_text (kid 0 t) (kid 1 t)) (token 2 t) (token 3 t) (kid 4 t)
    else loop_start (named_text (qualified_of (token 0 t) (kid 1 t)) (kid 2 t)) (token 3 t) (token 4 t) (kid 5 t)

abbrev pub name_step : ℕ → Tree → LoopStep
name_step name t =
    if row_of t == R.ASSIGNMENT then P.Assign name (assignment_operator_by (row_of (kid 0 t))) (token 0 (kid 0 t)) (expr_of (kid 1 t))
    else P.Postfix name (step_operator_by (row_of (kid 0 t))) (token 0 (kid 0 t))

abbrev pub loop_step_of : Tree → LoopStep
loop_step_of t =
    if row_of t == R.ASSIGNMENT_STEP then name_step (token 0 t) (kid 1 t)
    else P.Prefix (step_operator_by (row_of (kid 0 t))) (token 0 (kid 0 t)) (token 1 t)

-- `else STATEMENT`, or nothing; `inner` gives the statements inside one
abbrev pub else_from : (Tree → Stmt) → Tree → Else
else_from inner t = record { keyword = token 0 t; body = inner (kid 1 t) }

abbrev pub else_of : (Tree → Stmt) → List Tree → Option Else
else_of inner [] = None
else_of inner (t ∷ ts) = Some (else_from inner t)

abbrev pub if_with : (Tree → Stmt) → Option UniquePriority → Expr → Tree → Stmt
if_with inner promise test t =
    S.If promise (token 0 t) (token 1 t) test (token 3 t) (inner (kid 4 t)) (else_of inner (drop 5 (kids_of t)))

-- the items of a `case`: those before a default, the default, and those behind it
abbrev pub values_item : (Tree → Stmt) → Tree → CaseItem
values_item inner t = C.Values (exprs_of expr_of (kid 0 t)) (token 1 t) (inner (kid 2 t))

abbrev pub optional_token_of : Tree → Option ℕ
optional_token_of t = optional (λ some. token 0 some) t

abbrev pub default_item : (Tree → Stmt) → Tree → CaseItem
default_item inner t = C.Default (token 0 t) (optional_token_of (kid 1 t)) (inner (kid 2 t))

abbrev pub from_default : (Tree → Stmt) → List Tree → List CaseItem
from_default inner [] = []
from_default inner (t ∷ ts) = default_item inner t ∷ map (values_item inner) ts

abbrev pub case_items_of : (Tree → Stmt) → Tree → List CaseItem
case_items_of inner t =
    if row_of t == R.ITEMS_FIRST then ((values_item inner (kid 0 t) ∷ []) ++ map (values_item inner) (kids_of (kid 1 t))) ++ from_default inner (kids_of (kid 2 t))
    else from_default inner (kids_of t)

abbrev pub case_with : (Tree → Stmt) → Option UniquePriority → Expr → Tree → Stmt
case_with inner promise value t =
    S.Case promise (case_keyword_of (kid 0 t)) (token 1 t) value (token 3 t) (case_items_of inner (kid 4 t)) (token 5 t)

abbrev pub conditional_of : (Tree → Stmt) → Option UniquePriority → Tree → Stmt
conditional_of inner promise t = if row_of t == R.IF then if_with inner promise (expr_of (kid 2 t)) t else case_with inner promise (expr_of (kid 2 t)) t

abbrev pub loop_control_with : LoopStart → Expr → Tree → LoopControl
loop_control_with first test t = record { first = first; test = test; step = loop_step_of (kid 6 t) }

abbrev pub loop_control_of : Tree → LoopControl
loop_control_of t = loop_control_with (loop_start_of (kid 2 t)) (expr_of (kid 4 t)) t

abbrev pub for_with : LoopControl → Stmt → Tree → Stmt
for_with control body t = S.For (token 0 t) (token 1 t) control.first (token 3 t) control.test (token 5 t) control.step (token 7 t) body

abbrev pub for_of : (Tree → Stmt) → Tree → Stmt
for_of inner t = for_with (loop_control_of t) (inner (kid 8 t)) t

abbrev pub block_of : (Tree → BlockItem) → Tree → Stmt
block_of items t = S.Block (token 0 t) (label_of (kid 1 t)) (map items (kids_of (kid 2 t))) (token 3 t) (label_of (kid 4 t))

abbrev pub optional_expr_of : Tree → Option Expr
optional_expr_of t = optional (λ some. expr_of (kid 0 some)) t

abbrev pub return_of : Tree → Stmt
return_of t = S.Return (token 0 t) (optional_expr_of (kid 1 t)) (token 2 t)

abbrev pub concatenation_assigned : Tree → Stmt
concatenation_assigned t = assigned (concatenated_of (kid 0 t)) (kid 1 t) (kid 2 t) (token 3 t)

abbrev pub prefix_of : Tree → Stmt
prefix_of t = S.Prefix (step_operator_by (row_of (kid 0 t))) (token 0 (kid 0 t)) (token 1 t) (selects_of expr_of (kid 2 t)) (token 3 t)

-- a statement that no name begins
abbrev pub statement_item_of : (Tree → Stmt) → (Tree → BlockItem) → Tree → Stmt
statement_item_of inner items t =
    if row_of t == R.BLOCK then block_of items t
    else (if row_of t == R.CONDITIONAL then conditional_of inner None (kid 0 t)
    else (if row_of t == R.PROMISED_CONDITIONAL then conditional_of inner (Some (promise_of (kid 0 t))) (kid 1 t)
    else (if row_of t == R.FOR then for_of inner t
    else (if row_of t == R.BREAK then S.Break (token 0 t) (token 1 t)
    else (if row_of t == R.CONTINUE then S.Continue (token 0 t) (token 1 t)
    else (if row_of t == R.RETURN then return_of t
    else (if row_of t == R.CONCATENATION_ASSIGNMENT then concatenation_assigned t
    else (if row_of t == R.PREFIX then prefix_of t
    else S.Empty (token 0 t)))))))))

-- a statement that a name begins
abbrev pub name_statement : ℕ → Tree → Stmt
name_statement name t =
    if row_of t == R.CALL_STATEMENT then call_of (alone name) (kid 0 t) (token 1 t)
    else (if row_of t == R.SCOPED_CALL_STATEMENT then call_of (scoped name (token 0 t) (token 1 t)) (kid 2 t) (token 3 t)
    else name_assigned name (kid 0 t) (kid 1 t) (token 2 t))

abbrev pub statement_of : (Tree → Stmt) → (Tree → BlockItem) → Tree → Stmt
statement_of inner items t =
    if row_of t == R.PLAIN_STATEMENT then statement_item_of inner items (kid 0 t)
    else name_statement (token 0 t) (kid 1 t)

-- variables of a block
abbrev pub block_variables : Option ℕ → Option ℕ → VariableText → ℕ → BlockItem
block_variables automatic var text semicolon = I.Variables automatic var text.of text.declarators semicolon

abbrev pub automatic_item : ℕ → Tree → ℕ → BlockItem
automatic_item automatic t semicolon =
    if row_of t == R.PLAIN_AUTOMATIC then block_variables (Some automatic) None (variable_text_of (kid 0 t)) semicolon
    else block_variables (Some automatic) (Some (token 0 t)) (variable_text_of (kid 1 t)) semicolon

-- an item of a block that a name begins
abbrev pub scoped_item : QualifiedName → Tree → BlockItem
scoped_item name t =
    if row_of t == R.SCOPED_CALL_ITEM then I.Statement (call_of name (kid 0 t) (token 1 t))
    else block_variables None None (variables_of (named_text name (kid 0 t)) (kid 1 t)) (token 2 t)

abbrev pub selected_item : ℕ → Tree → Tree → BlockItem
selected_item name selects t =
    if row_of t == R.ASSIGNMENT_ITEM then I.Statement (name_assigned name selects (kid 0 t) (token 1 t))
    else I.NamedVariables name (selects_of expr_of selects) (declarators_of (kid 0 t)) (token 1 t)

abbrev pub name_item : ℕ → Tree → BlockItem
name_item name t =
    if row_of t == R.CALL_ITEM then I.Statement (call_of (alone name) (kid 0 t) (token 1 t))
    else (if row_of t == R.SCOPED_ITEM then scoped_item (scoped name (token 0 t) (token 1 t)) (kid 2 t)
    else selected_item name (kid 0 t) (kid 1 t))

abbrev pub declaration_item : Tree → BlockItem
declaration_item t =
    if row_of t == R.PARAMETERS_ITEM then I.Parameters (parameters_of (kid 0 t) (token 1 t))
    else (if row_of t == R.AUTOMATIC_ITEM then automatic_item (token 0 t) (kid 1 t) (token 2 t)
    else (if row_of t == R.KEYWORD_ITEM then block_variables None None (variables_of (keyword_text (kid 0 t) (kid 1 t)) (kid 2 t)) (token 3 t)
    else (if row_of t == R.AGGREGATE_ITEM then block_variables None None (variables_of (aggregate_text (kid 0 t) (kid 1 t)) (kid 2 t)) (token 3 t)
    else (if row_of t == R.VAR_ITEM then block_variables None (Some (token 0 t)) (variable_text_of (kid 1 t)) (token 2 t)
    else name_item (token 0 t) (kid 1 t)))))

abbrev pub block_item_of : (Tree → Stmt) → (Tree → BlockItem) → Tree → BlockItem
block_item_of inner items t = if row_of t == R.STATEMENT_ITEM then I.Statement (statement_item_of inner items (kid 0 t)) else declaration_item t

-- Statements and items of blocks in which these nest at most so deep; none nests deeper in a text.
pub record Readers : Type 0 where
  pub stmt : Tree → Stmt
  pub item : Tree → BlockItem

unfoldable pub inside : ℕ → Readers
inside zero = record { stmt = λ t. S.Empty 0; item = λ t. I.Statement (S.Empty 0) }
inside (suc depth) = record {
  stmt = λ t. statement_of (inside depth).stmt (inside depth).item t;
  item = λ t. block_item_of (inside depth).stmt (inside depth).item t;
}

abbrev pub stmt_of : Tree → Stmt
stmt_of t = (inside nesting_limit).stmt t

abbrev pub block_items_of : Tree → List BlockItem
block_items_of t = map (inside nesting_limit).item (kids_of t)
