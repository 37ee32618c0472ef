-- The parts that the nodes of targets, statements and items of blocks have in any text.
use Rattle.std.proofs.Common.{◌≡◌, ℕ, suc, ◌≤◌, true, false, ◌==◌, [], ◌∷◌, refl}
use Rattle.std.proofs.lemmas.Bool.{eqb-true}
use Rattle.ll_engine.specs.declared.tree.Tree.{Tree}
use Rattle.sv_tree.specs.Heads as head
use Rattle.sv_tree.specs.Table.{table}
use Rattle.sv_build.specs.declared.rows.TheConstants as R
use Rattle.expr_build.specs.Nodes.{row_of, is_blank}
use Rattle.expr_build.specs.Expressions.{nesting_limit}
use Rattle.least_laws.proofs.Spans.{Spans, Facts}
use Rattle.least_laws.proofs.Spans.Shape.{Token, One, Each}
use Rattle.least_laws.proofs.Rows.{NotIn, of-row, of-others, of-all, of-filled, of-deep, of-deep-row, of-deep-others, deep-limit}

-- targets
pub name-lvalue : {n at to : ℕ} {t : Tree} → Spans head.variable_lvalue n at t to → (row_of t == R.NAME_LVALUE) ≡ true → Facts (Token ∷ One head.selects ∷ []) 0 n t at to
unfolding table
name-lvalue {t = t} s e = of-row R.NAME_LVALUE (Token ∷ One head.selects ∷ []) refl s (eqb-true (row_of t) R.NAME_LVALUE e)

pub other-lvalue : {n at to : ℕ} {t : Tree} → Spans head.variable_lvalue n at t to → NotIn (row_of t) (R.NAME_LVALUE ∷ []) → Facts (One head.lvalue_concatenation ∷ []) 0 n t at to
unfolding table
other-lvalue s e = of-others (R.NAME_LVALUE ∷ []) (One head.lvalue_concatenation ∷ []) refl s e

pub concatenation-limit : {n at to : ℕ} {t : Tree} → Spans head.lvalue_concatenation n at t to → suc n ≤ nesting_limit
unfolding table
concatenation-limit s = deep-limit refl refl s

pub lvalue-concatenation : {n at to : ℕ} {t : Tree} → Spans head.lvalue_concatenation n at t to → Facts (Token ∷ One head.lvalue_concatenation_rest ∷ []) 0 (suc n) t at to
unfolding table
lvalue-concatenation s = of-deep (Token ∷ One head.lvalue_concatenation_rest ∷ []) refl refl s

pub plain-lvalues : {n at to : ℕ} {t : Tree} → Spans head.lvalue_concatenation_rest n at t to → (row_of t == R.PLAIN_LVALUES) ≡ true → Facts (One head.variable_lvalues ∷ Token ∷ []) 0 n t at to
unfolding table
plain-lvalues {t = t} s e = of-row R.PLAIN_LVALUES (One head.variable_lvalues ∷ Token ∷ []) refl s (eqb-true (row_of t) R.PLAIN_LVALUES e)

pub stream-lvalues : {n at to : ℕ} {t : Tree} → Spans head.lvalue_concatenation_rest n at t to → NotIn (row_of t) (R.PLAIN_LVALUES ∷ []) → Facts (One head.stream_operator ∷ One head.optional_slice_size ∷ Token ∷ One head.variable_lvalues ∷ Token ∷ Token ∷ []) 0 n t at to
unfolding table
stream-lvalues s e = of-others (R.PLAIN_LVALUES ∷ []) (One head.stream_operator ∷ One head.optional_slice_size ∷ Token ∷ One head.variable_lvalues ∷ Token ∷ Token ∷ []) refl s e

pub lvalues : {n at to : ℕ} {t : Tree} → Spans head.variable_lvalues n at t to → Facts (One head.variable_lvalue ∷ Each head.next_lvalue ∷ []) 0 n t at to
unfolding table
lvalues s = of-all (One head.variable_lvalue ∷ Each head.next_lvalue ∷ []) refl s

pub next-lvalue : {n at to : ℕ} {t : Tree} → Spans head.next_lvalue n at t to → Facts (Token ∷ One head.variable_lvalue ∷ []) 0 n t at to
unfolding table
next-lvalue s = of-all (Token ∷ One head.variable_lvalue ∷ []) refl s

-- assignments, calls and loops
pub assignment : {n at to : ℕ} {t : Tree} → Spans head.assignment_rest n at t to → (row_of t == R.ASSIGNMENT) ≡ true → Facts (One head.assignment_operator ∷ One head.expression ∷ []) 0 n t at to
unfolding table
assignment {t = t} s e = of-row R.ASSIGNMENT (One head.assignment_operator ∷ One head.expression ∷ []) refl s (eqb-true (row_of t) R.ASSIGNMENT e)

pub postfix : {n at to : ℕ} {t : Tree} → Spans head.assignment_rest n at t to → NotIn (row_of t) (R.ASSIGNMENT ∷ []) → Facts (One head.inc_or_dec_operator ∷ []) 0 n t at to
unfolding table
postfix s e = of-others (R.ASSIGNMENT ∷ []) (One head.inc_or_dec_operator ∷ []) refl s e

pub assignment-operator : {n at to : ℕ} {t : Tree} → Spans head.assignment_operator n at t to → Facts (Token ∷ []) 0 n t at to
unfolding table
assignment-operator s = of-all (Token ∷ []) refl s

pub step-operator : {n at to : ℕ} {t : Tree} → Spans head.inc_or_dec_operator n at t to → Facts (Token ∷ []) 0 n t at to
unfolding table
step-operator s = of-all (Token ∷ []) refl s

pub call : {n at to : ℕ} {t : Tree} → Spans head.call n at t to → Facts (Token ∷ One head.optional_arguments ∷ Token ∷ []) 0 n t at to
unfolding table
call s = of-all (Token ∷ One head.optional_arguments ∷ Token ∷ []) refl s

pub keyword-loop : {n at to : ℕ} {t : Tree} → Spans head.for_initialization n at t to → (row_of t == R.KEYWORD_LOOP) ≡ true → Facts (One head.keyword_type ∷ One head.dimensions ∷ Token ∷ Token ∷ One head.expression ∷ []) 0 n t at to
unfolding table
keyword-loop {t = t} s e = of-row R.KEYWORD_LOOP (One head.keyword_type ∷ One head.dimensions ∷ Token ∷ Token ∷ One head.expression ∷ []) refl s (eqb-true (row_of t) R.KEYWORD_LOOP e)

pub named-loop : {n at to : ℕ} {t : Tree} → Spans head.for_initialization n at t to → NotIn (row_of t) (R.KEYWORD_LOOP ∷ []) → Facts (Token ∷ One head.optional_scoped_name ∷ One head.dimensions ∷ Token ∷ Token ∷ One head.expression ∷ []) 0 n t at to
unfolding table
named-loop s e = of-others (R.KEYWORD_LOOP ∷ []) (Token ∷ One head.optional_scoped_name ∷ One head.dimensions ∷ Token ∷ Token ∷ One head.expression ∷ []) refl s e

pub name-step : {n at to : ℕ} {t : Tree} → Spans head.for_step n at t to → (row_of t == R.ASSIGNMENT_STEP) ≡ true → Facts (Token ∷ One head.assignment_rest ∷ []) 0 n t at to
unfolding table
name-step {t = t} s e = of-row R.ASSIGNMENT_STEP (Token ∷ One head.assignment_rest ∷ []) refl s (eqb-true (row_of t) R.ASSIGNMENT_STEP e)

pub prefix-step : {n at to : ℕ} {t : Tree} → Spans head.for_step n at t to → NotIn (row_of t) (R.ASSIGNMENT_STEP ∷ []) → Facts (One head.inc_or_dec_operator ∷ Token ∷ []) 0 n t at to
unfolding table
prefix-step s e = of-others (R.ASSIGNMENT_STEP ∷ []) (One head.inc_or_dec_operator ∷ Token ∷ []) refl s e

-- conditional statements
pub if : {n at to : ℕ} {t : Tree} → Spans head.conditional_statement n at t to → (row_of t == R.IF) ≡ true → Facts (Token ∷ Token ∷ One head.expression ∷ Token ∷ One head.statement ∷ Each head.else_statement ∷ []) 0 n t at to
unfolding table
if {t = t} s e = of-row R.IF (Token ∷ Token ∷ One head.expression ∷ Token ∷ One head.statement ∷ Each head.else_statement ∷ []) refl s (eqb-true (row_of t) R.IF e)

pub case : {n at to : ℕ} {t : Tree} → Spans head.conditional_statement n at t to → NotIn (row_of t) (R.IF ∷ []) → Facts (One head.case_keyword ∷ Token ∷ One head.expression ∷ Token ∷ One head.case_body ∷ Token ∷ []) 0 n t at to
unfolding table
case s e = of-others (R.IF ∷ []) (One head.case_keyword ∷ Token ∷ One head.expression ∷ Token ∷ One head.case_body ∷ Token ∷ []) refl s e

pub else : {n at to : ℕ} {t : Tree} → Spans head.else_statement n at t to → Facts (Token ∷ One head.statement ∷ []) 0 n t at to
unfolding table
else s = of-all (Token ∷ One head.statement ∷ []) refl s

pub items-first : {n at to : ℕ} {t : Tree} → Spans head.case_body n at t to → (row_of t == R.ITEMS_FIRST) ≡ true → Facts (One head.case_item ∷ One head.case_items ∷ One head.optional_case_default ∷ []) 0 n t at to
unfolding table
items-first {t = t} s e = of-row R.ITEMS_FIRST (One head.case_item ∷ One head.case_items ∷ One head.optional_case_default ∷ []) refl s (eqb-true (row_of t) R.ITEMS_FIRST e)

pub default-first : {n at to : ℕ} {t : Tree} → Spans head.case_body n at t to → NotIn (row_of t) (R.ITEMS_FIRST ∷ []) → Facts (One head.case_default ∷ Each head.case_item ∷ []) 0 n t at to
unfolding table
default-first s e = of-others (R.ITEMS_FIRST ∷ []) (One head.case_default ∷ Each head.case_item ∷ []) refl s e

pub case-items : {n at to : ℕ} {t : Tree} → Spans head.case_items n at t to → Facts (Each head.case_item ∷ []) 0 n t at to
unfolding table
case-items s = of-all (Each head.case_item ∷ []) refl s

pub case-default : {n at to : ℕ} {t : Tree} → Spans head.optional_case_default n at t to → is_blank t ≡ false → NotIn (row_of t) [] → Facts (One head.case_default ∷ Each head.case_item ∷ []) 0 n t at to
unfolding table
case-default s b e = of-filled [] (One head.case_default ∷ Each head.case_item ∷ []) refl s e b

pub default-item : {n at to : ℕ} {t : Tree} → Spans head.case_default n at t to → Facts (Token ∷ One head.optional_colon ∷ One head.statement ∷ []) 0 n t at to
unfolding table
default-item s = of-all (Token ∷ One head.optional_colon ∷ One head.statement ∷ []) refl s

pub case-item : {n at to : ℕ} {t : Tree} → Spans head.case_item n at t to → Facts (One head.expressions ∷ Token ∷ One head.statement ∷ []) 0 n t at to
unfolding table
case-item s = of-all (One head.expressions ∷ Token ∷ One head.statement ∷ []) refl s

-- statements that no name begins
pub some-expression : {n at to : ℕ} {t : Tree} → Spans head.optional_expression n at t to → is_blank t ≡ false → NotIn (row_of t) [] → Facts (One head.expression ∷ []) 0 n t at to
unfolding table
some-expression s b e = of-filled [] (One head.expression ∷ []) refl s e b

pub block : {n at to : ℕ} {t : Tree} → Spans head.statement_item n at t to → (row_of t == R.BLOCK) ≡ true → Facts (Token ∷ One head.optional_label ∷ One head.block_items ∷ Token ∷ One head.optional_label ∷ []) 0 n t at to
unfolding table
block {t = t} s e = of-row R.BLOCK (Token ∷ One head.optional_label ∷ One head.block_items ∷ Token ∷ One head.optional_label ∷ []) refl s (eqb-true (row_of t) R.BLOCK e)

pub conditional : {n at to : ℕ} {t : Tree} → Spans head.statement_item n at t to → (row_of t == R.CONDITIONAL) ≡ true → Facts (One head.conditional_statement ∷ []) 0 n t at to
unfolding table
conditional {t = t} s e = of-row R.CONDITIONAL (One head.conditional_statement ∷ []) refl s (eqb-true (row_of t) R.CONDITIONAL e)

pub promised : {n at to : ℕ} {t : Tree} → Spans head.statement_item n at t to → (row_of t == R.PROMISED_CONDITIONAL) ≡ true → Facts (One head.unique_priority ∷ One head.conditional_statement ∷ []) 0 n t at to
unfolding table
promised {t = t} s e = of-row R.PROMISED_CONDITIONAL (One head.unique_priority ∷ One head.conditional_statement ∷ []) refl s (eqb-true (row_of t) R.PROMISED_CONDITIONAL e)

pub for-loop : {n at to : ℕ} {t : Tree} → Spans head.statement_item n at t to → (row_of t == R.FOR) ≡ true → Facts (Token ∷ Token ∷ One head.for_initialization ∷ Token ∷ One head.expression ∷ Token ∷ One head.for_step ∷ Token ∷ One head.statement ∷ []) 0 n t at to
unfolding table
for-loop {t = t} s e = of-row R.FOR (Token ∷ Token ∷ One head.for_initialization ∷ Token ∷ One head.expression ∷ Token ∷ One head.for_step ∷ Token ∷ One head.statement ∷ []) refl s (eqb-true (row_of t) R.FOR e)

pub break : {n at to : ℕ} {t : Tree} → Spans head.statement_item n at t to → (row_of t == R.BREAK) ≡ true → Facts (Token ∷ Token ∷ []) 0 n t at to
unfolding table
break {t = t} s e = of-row R.BREAK (Token ∷ Token ∷ []) refl s (eqb-true (row_of t) R.BREAK e)

pub continue : {n at to : ℕ} {t : Tree} → Spans head.statement_item n at t to → (row_of t == R.CONTINUE) ≡ true → Facts (Token ∷ Token ∷ []) 0 n t at to
unfolding table
continue {t = t} s e = of-row R.CONTINUE (Token ∷ Token ∷ []) refl s (eqb-true (row_of t) R.CONTINUE e)

pub return : {n at to : ℕ} {t : Tree} → Spans head.statement_item n at t to → (row_of t == R.RETURN) ≡ true → Facts (Token ∷ One head.optional_expression ∷ Token ∷ []) 0 n t at to
unfolding table
return {t = t} s e = of-row R.RETURN (Token ∷ One head.optional_expression ∷ Token ∷ []) refl s (eqb-true (row_of t) R.RETURN e)

pub concatenation-assigned : {n at to : ℕ} {t : Tree} → Spans head.statement_item n at t to → (row_of t == R.CONCATENATION_ASSIGNMENT) ≡ true → Facts (One head.lvalue_concatenation ∷ One head.assignment_operator ∷ One head.expression ∷ Token ∷ []) 0 n t at to
unfolding table
concatenation-assigned {t = t} s e = of-row R.CONCATENATION_ASSIGNMENT (One head.lvalue_concatenation ∷ One head.assignment_operator ∷ One head.expression ∷ Token ∷ []) refl s (eqb-true (row_of t) R.CONCATENATION_ASSIGNMENT e)

pub prefix : {n at to : ℕ} {t : Tree} → Spans head.statement_item n at t to → (row_of t == R.PREFIX) ≡ true → Facts (One head.inc_or_dec_operator ∷ Token ∷ One head.selects ∷ Token ∷ []) 0 n t at to
unfolding table
prefix {t = t} s e = of-row R.PREFIX (One head.inc_or_dec_operator ∷ Token ∷ One head.selects ∷ Token ∷ []) refl s (eqb-true (row_of t) R.PREFIX e)

-- statements, one deeper
pub statement-limit : {n at to : ℕ} {t : Tree} → Spans head.statement n at t to → suc n ≤ nesting_limit
unfolding table
statement-limit s = deep-limit refl refl s

pub plain-statement : {n at to : ℕ} {t : Tree} → Spans head.statement n at t to → (row_of t == R.PLAIN_STATEMENT) ≡ true → Facts (One head.statement_item ∷ []) 0 (suc n) t at to
unfolding table
plain-statement {t = t} s e = of-deep-row R.PLAIN_STATEMENT (One head.statement_item ∷ []) refl s (eqb-true (row_of t) R.PLAIN_STATEMENT e) refl

pub name-statement : {n at to : ℕ} {t : Tree} → Spans head.statement n at t to → NotIn (row_of t) (R.PLAIN_STATEMENT ∷ []) → Facts (Token ∷ One head.statement_name_rest ∷ []) 0 (suc n) t at to
unfolding table
name-statement s e = of-deep-others (R.PLAIN_STATEMENT ∷ []) (Token ∷ One head.statement_name_rest ∷ []) refl refl s e

pub call-statement : {n at to : ℕ} {t : Tree} → Spans head.statement_name_rest n at t to → (row_of t == R.CALL_STATEMENT) ≡ true → Facts (One head.call ∷ Token ∷ []) 0 n t at to
unfolding table
call-statement {t = t} s e = of-row R.CALL_STATEMENT (One head.call ∷ Token ∷ []) refl s (eqb-true (row_of t) R.CALL_STATEMENT e)

pub scoped-call-statement : {n at to : ℕ} {t : Tree} → Spans head.statement_name_rest n at t to → (row_of t == R.SCOPED_CALL_STATEMENT) ≡ true → Facts (Token ∷ Token ∷ One head.call ∷ Token ∷ []) 0 n t at to
unfolding table
scoped-call-statement {t = t} s e = of-row R.SCOPED_CALL_STATEMENT (Token ∷ Token ∷ One head.call ∷ Token ∷ []) refl s (eqb-true (row_of t) R.SCOPED_CALL_STATEMENT e)

pub assigned-statement : {n at to : ℕ} {t : Tree} → Spans head.statement_name_rest n at t to → NotIn (row_of t) (R.CALL_STATEMENT ∷ R.SCOPED_CALL_STATEMENT ∷ []) → Facts (One head.selects ∷ One head.assignment_rest ∷ Token ∷ []) 0 n t at to
unfolding table
assigned-statement s e = of-others (R.CALL_STATEMENT ∷ R.SCOPED_CALL_STATEMENT ∷ []) (One head.selects ∷ One head.assignment_rest ∷ Token ∷ []) refl s e

-- items of blocks, one deeper
pub block-items : {n at to : ℕ} {t : Tree} → Spans head.block_items n at t to → Facts (Each head.block_item ∷ []) 0 n t at to
unfolding table
block-items s = of-all (Each head.block_item ∷ []) refl s

pub item-limit : {n at to : ℕ} {t : Tree} → Spans head.block_item n at t to → suc n ≤ nesting_limit
unfolding table
item-limit s = deep-limit refl refl s

pub statement-item : {n at to : ℕ} {t : Tree} → Spans head.block_item n at t to → (row_of t == R.STATEMENT_ITEM) ≡ true → Facts (One head.statement_item ∷ []) 0 (suc n) t at to
unfolding table
statement-item {t = t} s e = of-deep-row R.STATEMENT_ITEM (One head.statement_item ∷ []) refl s (eqb-true (row_of t) R.STATEMENT_ITEM e) refl

pub parameters-item : {n at to : ℕ} {t : Tree} → Spans head.block_item n at t to → (row_of t == R.PARAMETERS_ITEM) ≡ true → Facts (One head.parameter_declaration ∷ Token ∷ []) 0 (suc n) t at to
unfolding table
parameters-item {t = t} s e = of-deep-row R.PARAMETERS_ITEM (One head.parameter_declaration ∷ Token ∷ []) refl s (eqb-true (row_of t) R.PARAMETERS_ITEM e) refl

pub automatic-item : {n at to : ℕ} {t : Tree} → Spans head.block_item n at t to → (row_of t == R.AUTOMATIC_ITEM) ≡ true → Facts (Token ∷ One head.automatic_declaration ∷ Token ∷ []) 0 (suc n) t at to
unfolding table
automatic-item {t = t} s e = of-deep-row R.AUTOMATIC_ITEM (Token ∷ One head.automatic_declaration ∷ Token ∷ []) refl s (eqb-true (row_of t) R.AUTOMATIC_ITEM e) refl

pub keyword-item : {n at to : ℕ} {t : Tree} → Spans head.block_item n at t to → (row_of t == R.KEYWORD_ITEM) ≡ true → Facts (One head.keyword_type ∷ One head.dimensions ∷ One head.declarators ∷ Token ∷ []) 0 (suc n) t at to
unfolding table
keyword-item {t = t} s e = of-deep-row R.KEYWORD_ITEM (One head.keyword_type ∷ One head.dimensions ∷ One head.declarators ∷ Token ∷ []) refl s (eqb-true (row_of t) R.KEYWORD_ITEM e) refl

pub aggregate-item : {n at to : ℕ} {t : Tree} → Spans head.block_item n at t to → (row_of t == R.AGGREGATE_ITEM) ≡ true → Facts (One head.aggregate_type ∷ One head.dimensions ∷ One head.declarators ∷ Token ∷ []) 0 (suc n) t at to
unfolding table
aggregate-item {t = t} s e = of-deep-row R.AGGREGATE_ITEM (One head.aggregate_type ∷ One head.dimensions ∷ One head.declarators ∷ Token ∷ []) refl s (eqb-true (row_of t) R.AGGREGATE_ITEM e) refl

pub var-item : {n at to : ℕ} {t : Tree} → Spans head.block_item n at t to → (row_of t == R.VAR_ITEM) ≡ true → Facts (Token ∷ One head.variable_type ∷ Token ∷ []) 0 (suc n) t at to
unfolding table
var-item {t = t} s e = of-deep-row R.VAR_ITEM (Token ∷ One head.variable_type ∷ Token ∷ []) refl s (eqb-true (row_of t) R.VAR_ITEM e) refl

pub name-item : {n at to : ℕ} {t : Tree} → Spans head.block_item n at t to → NotIn (row_of t) (R.STATEMENT_ITEM ∷ R.PARAMETERS_ITEM ∷ R.AUTOMATIC_ITEM ∷ R.KEYWORD_ITEM ∷ R.AGGREGATE_ITEM ∷ R.VAR_ITEM ∷ []) → Facts (Token ∷ One head.block_name_rest ∷ []) 0 (suc n) t at to
unfolding table
name-item s e = of-deep-others (R.STATEMENT_ITEM ∷ R.PARAMETERS_ITEM ∷ R.AUTOMATIC_ITEM ∷ R.KEYWORD_ITEM ∷ R.AGGREGATE_ITEM ∷ R.VAR_ITEM ∷ []) (Token ∷ One head.block_name_rest ∷ []) refl refl s e

pub plain-automatic : {n at to : ℕ} {t : Tree} → Spans head.automatic_declaration n at t to → (row_of t == R.PLAIN_AUTOMATIC) ≡ true → Facts (One head.variable_type ∷ []) 0 n t at to
unfolding table
plain-automatic {t = t} s e = of-row R.PLAIN_AUTOMATIC (One head.variable_type ∷ []) refl s (eqb-true (row_of t) R.PLAIN_AUTOMATIC e)

pub var-automatic : {n at to : ℕ} {t : Tree} → Spans head.automatic_declaration n at t to → NotIn (row_of t) (R.PLAIN_AUTOMATIC ∷ []) → Facts (Token ∷ One head.variable_type ∷ []) 0 n t at to
unfolding table
var-automatic s e = of-others (R.PLAIN_AUTOMATIC ∷ []) (Token ∷ One head.variable_type ∷ []) refl s e

pub call-item : {n at to : ℕ} {t : Tree} → Spans head.block_name_rest n at t to → (row_of t == R.CALL_ITEM) ≡ true → Facts (One head.call ∷ Token ∷ []) 0 n t at to
unfolding table
call-item {t = t} s e = of-row R.CALL_ITEM (One head.call ∷ Token ∷ []) refl s (eqb-true (row_of t) R.CALL_ITEM e)

pub scoped-item : {n at to : ℕ} {t : Tree} → Spans head.block_name_rest n at t to → (row_of t == R.SCOPED_ITEM) ≡ true → Facts (Token ∷ Token ∷ One head.block_scoped_name_rest ∷ []) 0 n t at to
unfolding table
scoped-item {t = t} s e = of-row R.SCOPED_ITEM (Token ∷ Token ∷ One head.block_scoped_name_rest ∷ []) refl s (eqb-true (row_of t) R.SCOPED_ITEM e)

pub selected-item : {n at to : ℕ} {t : Tree} → Spans head.block_name_rest n at t to → NotIn (row_of t) (R.CALL_ITEM ∷ R.SCOPED_ITEM ∷ []) → Facts (One head.selects ∷ One head.block_select_rest ∷ []) 0 n t at to
unfolding table
selected-item s e = of-others (R.CALL_ITEM ∷ R.SCOPED_ITEM ∷ []) (One head.selects ∷ One head.block_select_rest ∷ []) refl s e

pub scoped-call-item : {n at to : ℕ} {t : Tree} → Spans head.block_scoped_name_rest n at t to → (row_of t == R.SCOPED_CALL_ITEM) ≡ true → Facts (One head.call ∷ Token ∷ []) 0 n t at to
unfolding table
scoped-call-item {t = t} s e = of-row R.SCOPED_CALL_ITEM (One head.call ∷ Token ∷ []) refl s (eqb-true (row_of t) R.SCOPED_CALL_ITEM e)

pub scoped-variables : {n at to : ℕ} {t : Tree} → Spans head.block_scoped_name_rest n at t to → NotIn (row_of t) (R.SCOPED_CALL_ITEM ∷ []) → Facts (One head.dimensions ∷ One head.declarators ∷ Token ∷ []) 0 n t at to
unfolding table
scoped-variables s e = of-others (R.SCOPED_CALL_ITEM ∷ []) (One head.dimensions ∷ One head.declarators ∷ Token ∷ []) refl s e

pub assignment-item : {n at to : ℕ} {t : Tree} → Spans head.block_select_rest n at t to → (row_of t == R.ASSIGNMENT_ITEM) ≡ true → Facts (One head.assignment_rest ∷ Token ∷ []) 0 n t at to
unfolding table
assignment-item {t = t} s e = of-row R.ASSIGNMENT_ITEM (One head.assignment_rest ∷ Token ∷ []) refl s (eqb-true (row_of t) R.ASSIGNMENT_ITEM e)

pub variables-item : {n at to : ℕ} {t : Tree} → Spans head.block_select_rest n at t to → NotIn (row_of t) (R.ASSIGNMENT_ITEM ∷ []) → Facts (One head.declarators ∷ Token ∷ []) 0 n t at to
unfolding table
variables-item s e = of-others (R.ASSIGNMENT_ITEM ∷ []) (One head.declarators ∷ Token ∷ []) refl s e
