-- The parts that nodes have in any text, by the table of the grammar: by their heads alone, by a row, by a head but for some rows, and
-- likewise where a head that may be empty isn't.
use Rattle.std.proofs.Common.{◌≡◌, ℕ, suc, ◌≤◌, true, false, ◌==◌, [], ◌∷◌, refl}
use Rattle.std.proofs.lemmas.Bool.{eqb-true}
use Rattle.ll_engine.specs.declared.tree.Tree.{Tree}
use Rattle.sv_tree.specs.Heads as head
use Rattle.sv_tree.specs.Table.{table}
use Rattle.expr_build.specs.declared.rows.TheConstants as R
use Rattle.expr_build.specs.Nodes.{row_of, is_blank}
use Rattle.expr_build.specs.Expressions.{nesting_limit}
use Rattle.least_laws.proofs.Spans.{Spans, Facts}
use Rattle.least_laws.proofs.Spans.Shape.{Token, One, Each}
use Rattle.least_laws.proofs.Rows.{NotIn, of-row, of-others, of-all, of-filled, of-deep, of-deep-row, deep-limit, span-limit}

-- words and names
pub keyword-type : {n at to : ℕ} {t : Tree} → Spans head.keyword_type n at t to → Facts (One head.type_keyword ∷ One head.optional_signing ∷ []) 0 n t at to
unfolding table
keyword-type s = of-all (One head.type_keyword ∷ One head.optional_signing ∷ []) refl s

pub type-keyword : {n at to : ℕ} {t : Tree} → Spans head.type_keyword n at t to → Facts (Token ∷ []) 0 n t at to
unfolding table
type-keyword s = of-all (Token ∷ []) refl s

pub signing : {n at to : ℕ} {t : Tree} → Spans head.signing n at t to → Facts (Token ∷ []) 0 n t at to
unfolding table
signing s = of-all (Token ∷ []) refl s

pub stream-operator : {n at to : ℕ} {t : Tree} → Spans head.stream_operator n at t to → Facts (Token ∷ []) 0 n t at to
unfolding table
stream-operator s = of-all (Token ∷ []) refl s

pub scoped-name : {n at to : ℕ} {t : Tree} → Spans head.optional_scoped_name n at t to → is_blank t ≡ false → NotIn (row_of t) [] → Facts (Token ∷ Token ∷ []) 0 n t at to
unfolding table
scoped-name s b e = of-filled [] (Token ∷ Token ∷ []) refl s e b

-- dimensions and selects
pub dimensions : {n at to : ℕ} {t : Tree} → Spans head.dimensions n at t to → Facts (Each head.dimension ∷ []) 0 n t at to
unfolding table
dimensions s = of-all (Each head.dimension ∷ []) refl s

pub dimension : {n at to : ℕ} {t : Tree} → Spans head.dimension n at t to → Facts (Token ∷ One head.expression ∷ One head.optional_right_bound ∷ Token ∷ []) 0 n t at to
unfolding table
dimension s = of-all (Token ∷ One head.expression ∷ One head.optional_right_bound ∷ Token ∷ []) refl s

pub right-bound : {n at to : ℕ} {t : Tree} → Spans head.optional_right_bound n at t to → is_blank t ≡ false → NotIn (row_of t) [] → Facts (Token ∷ One head.expression ∷ []) 0 n t at to
unfolding table
right-bound s b e = of-filled [] (Token ∷ One head.expression ∷ []) refl s e b

pub selects : {n at to : ℕ} {t : Tree} → Spans head.selects n at t to → Facts (Each head.select ∷ []) 0 n t at to
unfolding table
selects s = of-all (Each head.select ∷ []) refl s

pub member-select : {n at to : ℕ} {t : Tree} → Spans head.select n at t to → (row_of t == R.MEMBER_SELECT) ≡ true → Facts (Token ∷ Token ∷ []) 0 n t at to
unfolding table
member-select {t = t} s e = of-row R.MEMBER_SELECT (Token ∷ Token ∷ []) refl s (eqb-true (row_of t) R.MEMBER_SELECT e)

pub bracketed : {n at to : ℕ} {t : Tree} → Spans head.select n at t to → NotIn (row_of t) (R.MEMBER_SELECT ∷ []) → Facts (Token ∷ One head.expression ∷ One head.optional_part_select_rest ∷ Token ∷ []) 0 n t at to
unfolding table
bracketed s e = of-others (R.MEMBER_SELECT ∷ []) (Token ∷ One head.expression ∷ One head.optional_part_select_rest ∷ Token ∷ []) refl s e

pub part-select : {n at to : ℕ} {t : Tree} → Spans head.optional_part_select_rest n at t to → is_blank t ≡ false → NotIn (row_of t) [] → Facts (One head.part_select_operator ∷ One head.expression ∷ []) 0 n t at to
unfolding table
part-select s b e = of-filled [] (One head.part_select_operator ∷ One head.expression ∷ []) refl s e b

pub part-operator : {n at to : ℕ} {t : Tree} → Spans head.part_select_operator n at t to → Facts (Token ∷ []) 0 n t at to
unfolding table
part-operator s = of-all (Token ∷ []) refl s

-- lists of expressions
pub expressions : {n at to : ℕ} {t : Tree} → Spans head.expressions n at t to → Facts (One head.expression ∷ Each head.next_expression ∷ []) 0 n t at to
unfolding table
expressions s = of-all (One head.expression ∷ Each head.next_expression ∷ []) refl s

pub next-expressions : {n at to : ℕ} {t : Tree} → Spans head.next_expressions n at t to → Facts (Each head.next_expression ∷ []) 0 n t at to
unfolding table
next-expressions s = of-all (Each head.next_expression ∷ []) refl s

pub next-expression : {n at to : ℕ} {t : Tree} → Spans head.next_expression n at t to → Facts (Token ∷ One head.expression ∷ []) 0 n t at to
unfolding table
next-expression s = of-all (Token ∷ One head.expression ∷ []) refl s

pub arguments : {n at to : ℕ} {t : Tree} → Spans head.optional_arguments n at t to → is_blank t ≡ false → NotIn (row_of t) [] → Facts (One head.expression ∷ Each head.next_expression ∷ []) 0 n t at to
unfolding table
arguments s b e = of-filled [] (One head.expression ∷ Each head.next_expression ∷ []) refl s e b

-- patterns and casts
pub default-first : {n at to : ℕ} {t : Tree} → Spans head.pattern_items n at t to → (row_of t == R.DEFAULT_FIRST) ≡ true → Facts (Token ∷ Token ∷ One head.expression ∷ Each head.next_pattern_item ∷ []) 0 n t at to
unfolding table
default-first {t = t} s e = of-row R.DEFAULT_FIRST (Token ∷ Token ∷ One head.expression ∷ Each head.next_pattern_item ∷ []) refl s (eqb-true (row_of t) R.DEFAULT_FIRST e)

pub pattern-items : {n at to : ℕ} {t : Tree} → Spans head.pattern_items n at t to → NotIn (row_of t) (R.DEFAULT_FIRST ∷ []) → Facts (One head.expression ∷ One head.pattern_rest ∷ []) 0 n t at to
unfolding table
pattern-items s e = of-others (R.DEFAULT_FIRST ∷ []) (One head.expression ∷ One head.pattern_rest ∷ []) refl s e

pub keyed-first : {n at to : ℕ} {t : Tree} → Spans head.pattern_rest n at t to → (row_of t == R.KEYED_FIRST) ≡ true → Facts (Token ∷ One head.expression ∷ Each head.next_pattern_item ∷ []) 0 n t at to
unfolding table
keyed-first {t = t} s e = of-row R.KEYED_FIRST (Token ∷ One head.expression ∷ Each head.next_pattern_item ∷ []) refl s (eqb-true (row_of t) R.KEYED_FIRST e)

pub pattern-replication : {n at to : ℕ} {t : Tree} → Spans head.pattern_rest n at t to → (row_of t == R.PATTERN_REPLICATION) ≡ true → Facts (Token ∷ One head.expressions ∷ Token ∷ []) 0 n t at to
unfolding table
pattern-replication {t = t} s e = of-row R.PATTERN_REPLICATION (Token ∷ One head.expressions ∷ Token ∷ []) refl s (eqb-true (row_of t) R.PATTERN_REPLICATION e)

pub more-items : {n at to : ℕ} {t : Tree} → Spans head.pattern_rest n at t to → NotIn (row_of t) (R.KEYED_FIRST ∷ R.PATTERN_REPLICATION ∷ []) → Facts (Each head.next_pattern_item ∷ []) 0 n t at to
unfolding table
more-items s e = of-others (R.KEYED_FIRST ∷ R.PATTERN_REPLICATION ∷ []) (Each head.next_pattern_item ∷ []) refl s e

pub next-pattern-item : {n at to : ℕ} {t : Tree} → Spans head.next_pattern_item n at t to → Facts (Token ∷ One head.pattern_item ∷ []) 0 n t at to
unfolding table
next-pattern-item s = of-all (Token ∷ One head.pattern_item ∷ []) refl s

pub default-item : {n at to : ℕ} {t : Tree} → Spans head.pattern_item n at t to → (row_of t == R.DEFAULT_ITEM) ≡ true → Facts (Token ∷ Token ∷ One head.expression ∷ []) 0 n t at to
unfolding table
default-item {t = t} s e = of-row R.DEFAULT_ITEM (Token ∷ Token ∷ One head.expression ∷ []) refl s (eqb-true (row_of t) R.DEFAULT_ITEM e)

pub other-item : {n at to : ℕ} {t : Tree} → Spans head.pattern_item n at t to → NotIn (row_of t) (R.DEFAULT_ITEM ∷ []) → Facts (One head.expression ∷ One head.optional_pattern_value ∷ []) 0 n t at to
unfolding table
other-item s e = of-others (R.DEFAULT_ITEM ∷ []) (One head.expression ∷ One head.optional_pattern_value ∷ []) refl s e

pub pattern-value : {n at to : ℕ} {t : Tree} → Spans head.optional_pattern_value n at t to → is_blank t ≡ false → NotIn (row_of t) [] → Facts (Token ∷ One head.expression ∷ []) 0 n t at to
unfolding table
pattern-value s b e = of-filled [] (Token ∷ One head.expression ∷ []) refl s e b

pub some-cast : {n at to : ℕ} {t : Tree} → Spans head.optional_cast n at t to → is_blank t ≡ false → NotIn (row_of t) [] → Facts (One head.cast ∷ []) 0 n t at to
unfolding table
some-cast s b e = of-filled [] (One head.cast ∷ []) refl s e b

pub cast : {n at to : ℕ} {t : Tree} → Spans head.cast n at t to → Facts (Token ∷ One head.cast_operand ∷ []) 0 n t at to
unfolding table
cast s = of-all (Token ∷ One head.cast_operand ∷ []) refl s

pub value-cast : {n at to : ℕ} {t : Tree} → Spans head.cast_operand n at t to → (row_of t == R.VALUE_CAST) ≡ true → Facts (Token ∷ One head.expression ∷ Token ∷ []) 0 n t at to
unfolding table
value-cast {t = t} s e = of-row R.VALUE_CAST (Token ∷ One head.expression ∷ Token ∷ []) refl s (eqb-true (row_of t) R.VALUE_CAST e)

pub pattern-cast : {n at to : ℕ} {t : Tree} → Spans head.cast_operand n at t to → NotIn (row_of t) (R.VALUE_CAST ∷ []) → Facts (Token ∷ One head.pattern_items ∷ Token ∷ []) 0 n t at to
unfolding table
pattern-cast s e = of-others (R.VALUE_CAST ∷ []) (Token ∷ One head.pattern_items ∷ Token ∷ []) refl s e

-- sizes of slices, and what `inside` looks in
pub decimal-slice : {n at to : ℕ} {t : Tree} → Spans head.optional_slice_size n at t to → (row_of t == R.DECIMAL_SLICE) ≡ true → Facts (Token ∷ []) 0 n t at to
unfolding table
decimal-slice {t = t} s e = of-row R.DECIMAL_SLICE (Token ∷ []) refl s (eqb-true (row_of t) R.DECIMAL_SLICE e)

pub keyword-slice : {n at to : ℕ} {t : Tree} → Spans head.optional_slice_size n at t to → (row_of t == R.KEYWORD_SLICE) ≡ true → Facts (One head.keyword_type ∷ []) 0 n t at to
unfolding table
keyword-slice {t = t} s e = of-row R.KEYWORD_SLICE (One head.keyword_type ∷ []) refl s (eqb-true (row_of t) R.KEYWORD_SLICE e)

pub name-slice : {n at to : ℕ} {t : Tree} → Spans head.optional_slice_size n at t to → (row_of t == R.NAME_SLICE) ≡ true → Facts (Token ∷ One head.optional_scoped_name ∷ []) 0 n t at to
unfolding table
name-slice {t = t} s e = of-row R.NAME_SLICE (Token ∷ One head.optional_scoped_name ∷ []) refl s (eqb-true (row_of t) R.NAME_SLICE e)

pub parenthesized-slice : {n at to : ℕ} {t : Tree} → Spans head.optional_slice_size n at t to → is_blank t ≡ false → NotIn (row_of t) (R.DECIMAL_SLICE ∷ R.KEYWORD_SLICE ∷ R.NAME_SLICE ∷ []) → Facts (Token ∷ One head.expression ∷ Token ∷ []) 0 n t at to
unfolding table
parenthesized-slice s b e = of-filled (R.DECIMAL_SLICE ∷ R.KEYWORD_SLICE ∷ R.NAME_SLICE ∷ []) (Token ∷ One head.expression ∷ Token ∷ []) refl s e b

pub value-ranges : {n at to : ℕ} {t : Tree} → Spans head.value_ranges n at t to → Facts (One head.value_range ∷ Each head.next_value_range ∷ []) 0 n t at to
unfolding table
value-ranges s = of-all (One head.value_range ∷ Each head.next_value_range ∷ []) refl s

pub next-value-range : {n at to : ℕ} {t : Tree} → Spans head.next_value_range n at t to → Facts (Token ∷ One head.value_range ∷ []) 0 n t at to
unfolding table
next-value-range s = of-all (Token ∷ One head.value_range ∷ []) refl s

pub value-item : {n at to : ℕ} {t : Tree} → Spans head.value_range n at t to → (row_of t == R.VALUE_ITEM) ≡ true → Facts (One head.expression ∷ []) 0 n t at to
unfolding table
value-item {t = t} s e = of-row R.VALUE_ITEM (One head.expression ∷ []) refl s (eqb-true (row_of t) R.VALUE_ITEM e)

pub range-item : {n at to : ℕ} {t : Tree} → Spans head.value_range n at t to → NotIn (row_of t) (R.VALUE_ITEM ∷ []) → Facts (Token ∷ One head.expression ∷ Token ∷ One head.expression ∷ Token ∷ []) 0 n t at to
unfolding table
range-item s e = of-others (R.VALUE_ITEM ∷ []) (Token ∷ One head.expression ∷ Token ∷ One head.expression ∷ Token ∷ []) refl s e

-- primaries
pub decimal : {n at to : ℕ} {t : Tree} → Spans head.primary n at t to → (row_of t == R.DECIMAL_PRIMARY) ≡ true → Facts (Token ∷ One head.optional_size_rest ∷ []) 0 n t at to
unfolding table
decimal {t = t} s e = of-row R.DECIMAL_PRIMARY (Token ∷ One head.optional_size_rest ∷ []) refl s (eqb-true (row_of t) R.DECIMAL_PRIMARY e)

pub sized : {n at to : ℕ} {t : Tree} → Spans head.optional_size_rest n at t to → (row_of t == R.SIZED) ≡ true → Facts (Token ∷ []) 0 n t at to
unfolding table
sized {t = t} s e = of-row R.SIZED (Token ∷ []) refl s (eqb-true (row_of t) R.SIZED e)

pub size-cast : {n at to : ℕ} {t : Tree} → Spans head.optional_size_rest n at t to → is_blank t ≡ false → NotIn (row_of t) (R.SIZED ∷ []) → Facts (One head.cast ∷ []) 0 n t at to
unfolding table
size-cast s b e = of-filled (R.SIZED ∷ []) (One head.cast ∷ []) refl s e b

pub based : {n at to : ℕ} {t : Tree} → Spans head.primary n at t to → (row_of t == R.BASED_PRIMARY) ≡ true → Facts (Token ∷ []) 0 n t at to
unfolding table
based {t = t} s e = of-row R.BASED_PRIMARY (Token ∷ []) refl s (eqb-true (row_of t) R.BASED_PRIMARY e)

pub fill : {n at to : ℕ} {t : Tree} → Spans head.primary n at t to → (row_of t == R.FILL_PRIMARY) ≡ true → Facts (Token ∷ []) 0 n t at to
unfolding table
fill {t = t} s e = of-row R.FILL_PRIMARY (Token ∷ []) refl s (eqb-true (row_of t) R.FILL_PRIMARY e)

pub parenthesized : {n at to : ℕ} {t : Tree} → Spans head.primary n at t to → (row_of t == R.PARENTHESIZED_PRIMARY) ≡ true → Facts (Token ∷ One head.expression ∷ Token ∷ One head.optional_cast ∷ []) 0 n t at to
unfolding table
parenthesized {t = t} s e = of-row R.PARENTHESIZED_PRIMARY (Token ∷ One head.expression ∷ Token ∷ One head.optional_cast ∷ []) refl s (eqb-true (row_of t) R.PARENTHESIZED_PRIMARY e)

pub braced : {n at to : ℕ} {t : Tree} → Spans head.primary n at t to → (row_of t == R.BRACED_PRIMARY) ≡ true → Facts (Token ∷ One head.primary_brace_rest ∷ []) 0 n t at to
unfolding table
braced {t = t} s e = of-row R.BRACED_PRIMARY (Token ∷ One head.primary_brace_rest ∷ []) refl s (eqb-true (row_of t) R.BRACED_PRIMARY e)

pub stream : {n at to : ℕ} {t : Tree} → Spans head.primary_brace_rest n at t to → (row_of t == R.STREAM) ≡ true → Facts (One head.stream_operator ∷ One head.optional_slice_size ∷ Token ∷ One head.expressions ∷ Token ∷ Token ∷ []) 0 n t at to
unfolding table
stream {t = t} s e = of-row R.STREAM (One head.stream_operator ∷ One head.optional_slice_size ∷ Token ∷ One head.expressions ∷ Token ∷ Token ∷ []) refl s (eqb-true (row_of t) R.STREAM e)

pub braces : {n at to : ℕ} {t : Tree} → Spans head.primary_brace_rest n at t to → NotIn (row_of t) (R.STREAM ∷ []) → Facts (One head.expression ∷ One head.concatenation_rest ∷ []) 0 n t at to
unfolding table
braces s e = of-others (R.STREAM ∷ []) (One head.expression ∷ One head.concatenation_rest ∷ []) refl s e

pub replication : {n at to : ℕ} {t : Tree} → Spans head.concatenation_rest n at t to → (row_of t == R.REPLICATION) ≡ true → Facts (Token ∷ One head.expressions ∷ Token ∷ Token ∷ []) 0 n t at to
unfolding table
replication {t = t} s e = of-row R.REPLICATION (Token ∷ One head.expressions ∷ Token ∷ Token ∷ []) refl s (eqb-true (row_of t) R.REPLICATION e)

pub concatenation : {n at to : ℕ} {t : Tree} → Spans head.concatenation_rest n at t to → NotIn (row_of t) (R.REPLICATION ∷ []) → Facts (One head.next_expressions ∷ Token ∷ []) 0 n t at to
unfolding table
concatenation s e = of-others (R.REPLICATION ∷ []) (One head.next_expressions ∷ Token ∷ []) refl s e

pub pattern : {n at to : ℕ} {t : Tree} → Spans head.primary n at t to → (row_of t == R.PATTERN_PRIMARY) ≡ true → Facts (Token ∷ Token ∷ One head.pattern_items ∷ Token ∷ []) 0 n t at to
unfolding table
pattern {t = t} s e = of-row R.PATTERN_PRIMARY (Token ∷ Token ∷ One head.pattern_items ∷ Token ∷ []) refl s (eqb-true (row_of t) R.PATTERN_PRIMARY e)

pub type-primary : {n at to : ℕ} {t : Tree} → Spans head.primary n at t to → (row_of t == R.TYPE_PRIMARY) ≡ true → Facts (One head.keyword_type ∷ One head.dimensions ∷ One head.optional_cast ∷ []) 0 n t at to
unfolding table
type-primary {t = t} s e = of-row R.TYPE_PRIMARY (One head.keyword_type ∷ One head.dimensions ∷ One head.optional_cast ∷ []) refl s (eqb-true (row_of t) R.TYPE_PRIMARY e)

pub signing-cast : {n at to : ℕ} {t : Tree} → Spans head.primary n at t to → (row_of t == R.SIGNING_PRIMARY) ≡ true → Facts (One head.signing ∷ One head.cast ∷ []) 0 n t at to
unfolding table
signing-cast {t = t} s e = of-row R.SIGNING_PRIMARY (One head.signing ∷ One head.cast ∷ []) refl s (eqb-true (row_of t) R.SIGNING_PRIMARY e)

pub system-call : {n at to : ℕ} {t : Tree} → Spans head.primary n at t to → (row_of t == R.SYSTEM_PRIMARY) ≡ true → Facts (Token ∷ Token ∷ One head.expression ∷ Token ∷ []) 0 n t at to
unfolding table
system-call {t = t} s e = of-row R.SYSTEM_PRIMARY (Token ∷ Token ∷ One head.expression ∷ Token ∷ []) refl s (eqb-true (row_of t) R.SYSTEM_PRIMARY e)

pub name : {n at to : ℕ} {t : Tree} → Spans head.primary n at t to → NotIn (row_of t) (R.DECIMAL_PRIMARY ∷ R.BASED_PRIMARY ∷ R.FILL_PRIMARY ∷ R.PARENTHESIZED_PRIMARY ∷ R.BRACED_PRIMARY ∷ R.PATTERN_PRIMARY ∷ R.TYPE_PRIMARY ∷ R.SIGNING_PRIMARY ∷ R.SYSTEM_PRIMARY ∷ []) → Facts (Token ∷ One head.primary_name_rest ∷ []) 0 n t at to
unfolding table
name s e = of-others (R.DECIMAL_PRIMARY ∷ R.BASED_PRIMARY ∷ R.FILL_PRIMARY ∷ R.PARENTHESIZED_PRIMARY ∷ R.BRACED_PRIMARY ∷ R.PATTERN_PRIMARY ∷ R.TYPE_PRIMARY ∷ R.SIGNING_PRIMARY ∷ R.SYSTEM_PRIMARY ∷ []) (Token ∷ One head.primary_name_rest ∷ []) refl s e

pub name-rest : {n at to : ℕ} {t : Tree} → Spans head.primary_name_rest n at t to → Facts (One head.optional_scoped_name ∷ One head.arguments_or_selects ∷ One head.optional_cast ∷ []) 0 n t at to
unfolding table
name-rest s = of-all (One head.optional_scoped_name ∷ One head.arguments_or_selects ∷ One head.optional_cast ∷ []) refl s

pub call : {n at to : ℕ} {t : Tree} → Spans head.arguments_or_selects n at t to → (row_of t == R.ARGUMENTS) ≡ true → Facts (Token ∷ One head.optional_arguments ∷ Token ∷ []) 0 n t at to
unfolding table
call {t = t} s e = of-row R.ARGUMENTS (Token ∷ One head.optional_arguments ∷ Token ∷ []) refl s (eqb-true (row_of t) R.ARGUMENTS e)

pub name-selects : {n at to : ℕ} {t : Tree} → Spans head.arguments_or_selects n at t to → NotIn (row_of t) (R.ARGUMENTS ∷ []) → Facts (Each head.select ∷ []) 0 n t at to
unfolding table
name-selects s e = of-others (R.ARGUMENTS ∷ []) (Each head.select ∷ []) refl s e

-- operations
pub primary : {n at to : ℕ} {t : Tree} → Spans head.unary n at t to → NotIn (row_of t) (R.UNARY_OPERATION ∷ []) → Facts (One head.primary ∷ []) 0 n t at to
unfolding table
primary s e = of-others (R.UNARY_OPERATION ∷ []) (One head.primary ∷ []) refl s e

pub unary-operator : {n at to : ℕ} {t : Tree} → Spans head.unary_operator n at t to → Facts (Token ∷ []) 0 n t at to
unfolding table
unary-operator s = of-all (Token ∷ []) refl s

pub operation : {n at to : ℕ} {t : Tree} → Spans head.unary n at t to → (row_of t == R.UNARY_OPERATION) ≡ true → Facts (One head.unary_operator ∷ One head.unary ∷ []) 0 (suc n) t at to
unfolding table
operation {t = t} s e = of-deep-row R.UNARY_OPERATION (One head.unary_operator ∷ One head.unary ∷ []) refl s (eqb-true (row_of t) R.UNARY_OPERATION e) refl

pub power : {n at to : ℕ} {t : Tree} → Spans head.power n at t to → Facts (One head.unary ∷ Each head.power_rest ∷ []) 0 n t at to
unfolding table
power s = of-all (One head.unary ∷ Each head.power_rest ∷ []) refl s

pub power-rest : {n at to : ℕ} {t : Tree} → Spans head.power_rest n at t to → Facts (Token ∷ One head.unary ∷ []) 0 n t at to
unfolding table
power-rest s = of-all (Token ∷ One head.unary ∷ []) refl s

pub product : {n at to : ℕ} {t : Tree} → Spans head.product n at t to → Facts (One head.power ∷ Each head.product_rest ∷ []) 0 n t at to
unfolding table
product s = of-all (One head.power ∷ Each head.product_rest ∷ []) refl s

pub product-rest : {n at to : ℕ} {t : Tree} → Spans head.product_rest n at t to → Facts (One head.product_operator ∷ One head.power ∷ []) 0 n t at to
unfolding table
product-rest s = of-all (One head.product_operator ∷ One head.power ∷ []) refl s

pub product-operator : {n at to : ℕ} {t : Tree} → Spans head.product_operator n at t to → Facts (Token ∷ []) 0 n t at to
unfolding table
product-operator s = of-all (Token ∷ []) refl s

pub sum : {n at to : ℕ} {t : Tree} → Spans head.sum n at t to → Facts (One head.product ∷ Each head.sum_rest ∷ []) 0 n t at to
unfolding table
sum s = of-all (One head.product ∷ Each head.sum_rest ∷ []) refl s

pub sum-rest : {n at to : ℕ} {t : Tree} → Spans head.sum_rest n at t to → Facts (One head.sum_operator ∷ One head.product ∷ []) 0 n t at to
unfolding table
sum-rest s = of-all (One head.sum_operator ∷ One head.product ∷ []) refl s

pub sum-operator : {n at to : ℕ} {t : Tree} → Spans head.sum_operator n at t to → Facts (Token ∷ []) 0 n t at to
unfolding table
sum-operator s = of-all (Token ∷ []) refl s

pub shift : {n at to : ℕ} {t : Tree} → Spans head.shift n at t to → Facts (One head.sum ∷ Each head.shift_rest ∷ []) 0 n t at to
unfolding table
shift s = of-all (One head.sum ∷ Each head.shift_rest ∷ []) refl s

pub shift-rest : {n at to : ℕ} {t : Tree} → Spans head.shift_rest n at t to → Facts (One head.shift_operator ∷ One head.sum ∷ []) 0 n t at to
unfolding table
shift-rest s = of-all (One head.shift_operator ∷ One head.sum ∷ []) refl s

pub shift-operator : {n at to : ℕ} {t : Tree} → Spans head.shift_operator n at t to → Facts (Token ∷ []) 0 n t at to
unfolding table
shift-operator s = of-all (Token ∷ []) refl s

pub relation : {n at to : ℕ} {t : Tree} → Spans head.relation n at t to → Facts (One head.shift ∷ Each head.relation_rest ∷ []) 0 n t at to
unfolding table
relation s = of-all (One head.shift ∷ Each head.relation_rest ∷ []) refl s

pub relation-rest : {n at to : ℕ} {t : Tree} → Spans head.relation_rest n at t to → NotIn (row_of t) (R.INSIDE ∷ []) → Facts (One head.relation_operator ∷ One head.shift ∷ []) 0 n t at to
unfolding table
relation-rest s e = of-others (R.INSIDE ∷ []) (One head.relation_operator ∷ One head.shift ∷ []) refl s e

pub inside : {h n at to : ℕ} {t : Tree} → Spans h n at t to → (row_of t == R.INSIDE) ≡ true → Facts (Token ∷ Token ∷ One head.value_ranges ∷ Token ∷ []) 0 n t at to
unfolding table
inside {t = t} s e = of-row R.INSIDE (Token ∷ Token ∷ One head.value_ranges ∷ Token ∷ []) refl s (eqb-true (row_of t) R.INSIDE e)

pub relation-operator : {n at to : ℕ} {t : Tree} → Spans head.relation_operator n at t to → Facts (Token ∷ []) 0 n t at to
unfolding table
relation-operator s = of-all (Token ∷ []) refl s

pub equality : {n at to : ℕ} {t : Tree} → Spans head.equality n at t to → Facts (One head.relation ∷ Each head.equality_rest ∷ []) 0 n t at to
unfolding table
equality s = of-all (One head.relation ∷ Each head.equality_rest ∷ []) refl s

pub equality-rest : {n at to : ℕ} {t : Tree} → Spans head.equality_rest n at t to → Facts (One head.equality_operator ∷ One head.relation ∷ []) 0 n t at to
unfolding table
equality-rest s = of-all (One head.equality_operator ∷ One head.relation ∷ []) refl s

pub equality-operator : {n at to : ℕ} {t : Tree} → Spans head.equality_operator n at t to → Facts (Token ∷ []) 0 n t at to
unfolding table
equality-operator s = of-all (Token ∷ []) refl s

pub bitwise-and : {n at to : ℕ} {t : Tree} → Spans head.bitwise_and n at t to → Facts (One head.equality ∷ Each head.bitwise_and_rest ∷ []) 0 n t at to
unfolding table
bitwise-and s = of-all (One head.equality ∷ Each head.bitwise_and_rest ∷ []) refl s

pub bitwise-and-rest : {n at to : ℕ} {t : Tree} → Spans head.bitwise_and_rest n at t to → Facts (Token ∷ One head.equality ∷ []) 0 n t at to
unfolding table
bitwise-and-rest s = of-all (Token ∷ One head.equality ∷ []) refl s

pub bitwise-xor : {n at to : ℕ} {t : Tree} → Spans head.bitwise_xor n at t to → Facts (One head.bitwise_and ∷ Each head.bitwise_xor_rest ∷ []) 0 n t at to
unfolding table
bitwise-xor s = of-all (One head.bitwise_and ∷ Each head.bitwise_xor_rest ∷ []) refl s

pub bitwise-xor-rest : {n at to : ℕ} {t : Tree} → Spans head.bitwise_xor_rest n at t to → Facts (One head.xor_operator ∷ One head.bitwise_and ∷ []) 0 n t at to
unfolding table
bitwise-xor-rest s = of-all (One head.xor_operator ∷ One head.bitwise_and ∷ []) refl s

pub xor-operator : {n at to : ℕ} {t : Tree} → Spans head.xor_operator n at t to → Facts (Token ∷ []) 0 n t at to
unfolding table
xor-operator s = of-all (Token ∷ []) refl s

pub bitwise-or : {n at to : ℕ} {t : Tree} → Spans head.bitwise_or n at t to → Facts (One head.bitwise_xor ∷ Each head.bitwise_or_rest ∷ []) 0 n t at to
unfolding table
bitwise-or s = of-all (One head.bitwise_xor ∷ Each head.bitwise_or_rest ∷ []) refl s

pub bitwise-or-rest : {n at to : ℕ} {t : Tree} → Spans head.bitwise_or_rest n at t to → Facts (Token ∷ One head.bitwise_xor ∷ []) 0 n t at to
unfolding table
bitwise-or-rest s = of-all (Token ∷ One head.bitwise_xor ∷ []) refl s

pub logical-and : {n at to : ℕ} {t : Tree} → Spans head.logical_and n at t to → Facts (One head.bitwise_or ∷ Each head.logical_and_rest ∷ []) 0 n t at to
unfolding table
logical-and s = of-all (One head.bitwise_or ∷ Each head.logical_and_rest ∷ []) refl s

pub logical-and-rest : {n at to : ℕ} {t : Tree} → Spans head.logical_and_rest n at t to → Facts (Token ∷ One head.bitwise_or ∷ []) 0 n t at to
unfolding table
logical-and-rest s = of-all (Token ∷ One head.bitwise_or ∷ []) refl s

pub logical-or : {n at to : ℕ} {t : Tree} → Spans head.logical_or n at t to → Facts (One head.logical_and ∷ Each head.logical_or_rest ∷ []) 0 n t at to
unfolding table
logical-or s = of-all (One head.logical_and ∷ Each head.logical_or_rest ∷ []) refl s

pub logical-or-rest : {n at to : ℕ} {t : Tree} → Spans head.logical_or_rest n at t to → Facts (Token ∷ One head.logical_and ∷ []) 0 n t at to
unfolding table
logical-or-rest s = of-all (Token ∷ One head.logical_and ∷ []) refl s

pub operator-limit : {n at to : ℕ} {t : Tree} → Spans head.unary_operator n at t to → n ≤ nesting_limit
operator-limit s = span-limit refl s

-- expressions, one deeper
pub expression-limit : {n at to : ℕ} {t : Tree} → Spans head.expression n at t to → suc n ≤ nesting_limit
unfolding table
expression-limit s = deep-limit refl refl s

pub expression : {n at to : ℕ} {t : Tree} → Spans head.expression n at t to → Facts (One head.logical_or ∷ One head.optional_conditional_rest ∷ []) 0 (suc n) t at to
unfolding table
expression s = of-deep (One head.logical_or ∷ One head.optional_conditional_rest ∷ []) refl refl s

pub conditional : {n at to : ℕ} {t : Tree} → Spans head.optional_conditional_rest n at t to → is_blank t ≡ false → NotIn (row_of t) [] → Facts (Token ∷ One head.expression ∷ Token ∷ One head.expression ∷ []) 0 n t at to
unfolding table
conditional s b e = of-filled [] (Token ∷ One head.expression ∷ Token ∷ One head.expression ∷ []) refl s e b
