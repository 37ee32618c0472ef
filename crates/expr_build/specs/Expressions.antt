-- The expressions of a source text, by the rows that they were read by: one definition for each head that has them. `inner` gives the
-- expressions inside one.
use Rattle.std.specs.Prelude.{ℕ, zero, suc, ◌==◌, List, [], ◌∷◌, map, drop, Option, if◌then◌else◌}
use Rattle.ll_engine.specs.declared.tree.Tree.{Tree, Tree-F, out-Tree}
use Rattle.sv_tree.specs.declared.expressions.Cast.{Cast}
use Rattle.sv_tree.specs.declared.expressions.Cast.TheVariants as C
use Rattle.sv_tree.specs.declared.expressions.Dimension.{Dimension}
use Rattle.sv_tree.specs.declared.expressions.Dimension.TheVariants as D
use Rattle.sv_tree.specs.declared.expressions.Expr.{Expr}
use Rattle.sv_tree.specs.declared.expressions.Expr.TheVariants as E
use Rattle.sv_tree.specs.declared.expressions.Pattern.{Pattern}
use Rattle.sv_tree.specs.declared.expressions.Pattern.TheVariants as P
use Rattle.sv_tree.specs.declared.expressions.PatternItem.{PatternItem}
use Rattle.sv_tree.specs.declared.expressions.PatternItem.TheVariants as I
use Rattle.sv_tree.specs.declared.expressions.Select.{Select}
use Rattle.sv_tree.specs.declared.expressions.Select.TheVariants as S
use Rattle.sv_tree.specs.declared.expressions.SliceSize.{SliceSize}
use Rattle.sv_tree.specs.declared.expressions.SliceSize.TheVariants as Z
use Rattle.sv_tree.specs.declared.expressions.ValueRange.{ValueRange}
use Rattle.sv_tree.specs.declared.expressions.ValueRange.TheVariants as V
use Rattle.sv_tree.specs.declared.names.QualifiedName.{QualifiedName}
use Rattle.expr_build.specs.declared.rows.TheConstants as R
use Rattle.expr_build.specs.Nodes.{kids_of, kid, token, row_of, mark, optional, is_blank, separated, behind_marks}
use Rattle.expr_build.specs.Words.{signing_of, keyword_type_of, qualified_of, unary_operator_by, binary_operator_by, part_operator_by, stream_operator_by}

-- `[ SIZE ]` or `[ LEFT : RIGHT ]`
abbrev pub dimension_of : (Tree → Expr) → Tree → Dimension
dimension_of inner t =
    if is_blank (kid 2 t) then D.Size (token 0 t) (inner (kid 1 t)) (token 3 t)
    else D.Range (token 0 t) (inner (kid 1 t)) (token 0 (kid 2 t)) (inner (kid 1 (kid 2 t))) (token 3 t)

abbrev pub dimensions_of : (Tree → Expr) → Tree → List Dimension
dimensions_of inner t = map (dimension_of inner) (kids_of t)

-- `. NAME`, `[ INDEX ]`, or `[ LEFT OPERATOR RIGHT ]`
abbrev pub bracketed_of : (Tree → Expr) → Tree → Select
bracketed_of inner t =
    if is_blank (kid 2 t) then S.Index (token 0 t) (inner (kid 1 t)) (token 3 t)
    else S.Part (token 0 t) (inner (kid 1 t)) (part_operator_by (row_of (kid 0 (kid 2 t)))) (token 0 (kid 0 (kid 2 t))) (inner (kid 1 (kid 2 t))) (token 3 t)

abbrev pub select_of : (Tree → Expr) → Tree → Select
select_of inner t = if row_of t == R.MEMBER_SELECT then S.Member (token 0 t) (token 1 t) else bracketed_of inner t

abbrev pub selects_of : (Tree → Expr) → Tree → List Select
selects_of inner t = map (select_of inner) (kids_of t)

abbrev pub exprs_of : (Tree → Expr) → Tree → List Expr
exprs_of inner t = separated inner (kids_of t)

-- the items of a pattern
abbrev pub default_item : (Tree → Expr) → Tree → PatternItem
default_item inner t = I.Default (token 0 t) (token 1 t) (inner (kid 2 t))

abbrev pub keyed_item : (Tree → Expr) → Tree → Tree → PatternItem
keyed_item inner key rest = I.Keyed (inner key) (token 0 rest) (inner (kid 1 rest))

abbrev pub pattern_item_of : (Tree → Expr) → Tree → PatternItem
pattern_item_of inner t =
    if row_of t == R.DEFAULT_ITEM then default_item inner t
    else (if is_blank (kid 1 t) then I.Value (inner (kid 0 t))
    else keyed_item inner (kid 0 t) (kid 1 t))

abbrev pub more_items : (Tree → Expr) → List Tree → List PatternItem
more_items inner trees = behind_marks (pattern_item_of inner) trees

-- what stands between the braces of a pattern
abbrev pub pattern_from : (Tree → Expr) → Tree → Tree → Pattern
pattern_from inner first rest =
    if row_of rest == R.KEYED_FIRST then P.Items (keyed_item inner first rest ∷ more_items inner (drop 2 (kids_of rest)))
    else (if row_of rest == R.PATTERN_REPLICATION then P.Replication (inner first) (token 0 rest) (exprs_of inner (kid 1 rest)) (token 2 rest)
    else P.Items (I.Value (inner first) ∷ more_items inner (kids_of rest)))

abbrev pub pattern_of : (Tree → Expr) → Tree → Pattern
pattern_of inner t =
    if row_of t == R.DEFAULT_FIRST then P.Items (default_item inner t ∷ more_items inner (drop 3 (kids_of t)))
    else pattern_from inner (kid 0 t) (kid 1 t)

-- `' ( VALUE )` or `' { PATTERN }`
abbrev pub cast_from : (Tree → Expr) → ℕ → Tree → Cast
cast_from inner tick t =
    if row_of t == R.VALUE_CAST then C.Value tick (token 0 t) (inner (kid 1 t)) (token 2 t)
    else C.Pattern tick (token 0 t) (pattern_of inner (kid 1 t)) (token 2 t)

abbrev pub cast_of : (Tree → Expr) → Tree → Cast
cast_of inner t = cast_from inner (token 0 t) (kid 1 t)

abbrev pub optional_cast_of : (Tree → Expr) → Tree → Option Cast
optional_cast_of inner t = optional (λ some. cast_of inner (kid 0 some)) t

-- the size of a stream's slice
abbrev pub slice_size_from : (Tree → Expr) → Tree → SliceSize
slice_size_from inner t =
    if row_of t == R.DECIMAL_SLICE then Z.Decimal (token 0 t)
    else (if row_of t == R.KEYWORD_SLICE then Z.Keyword (keyword_type_of (kid 0 t))
    else (if row_of t == R.NAME_SLICE then Z.Name (qualified_of (token 0 t) (kid 1 t))
    else Z.Parenthesized (token 0 t) (inner (kid 1 t)) (token 2 t)))

abbrev pub slice_size_of : (Tree → Expr) → Tree → Option SliceSize
slice_size_of inner t = optional (slice_size_from inner) t

-- what `inside` looks in
abbrev pub value_range_of : (Tree → Expr) → Tree → ValueRange
value_range_of inner t =
    if row_of t == R.VALUE_ITEM then V.Value (inner (kid 0 t))
    else V.Range (token 0 t) (inner (kid 1 t)) (token 2 t) (inner (kid 3 t)) (token 4 t)

abbrev pub value_ranges_from : (Tree → Expr) → List Tree → List ValueRange
value_ranges_from inner trees = separated (value_range_of inner) trees

-- `NUMBER`, `NUMBER BASED` or `NUMBER CAST`
abbrev pub decimal_of : (Tree → Expr) → Tree → Expr
decimal_of inner t =
    if is_blank (kid 1 t) then E.Decimal (token 0 t)
    else (if row_of (kid 1 t) == R.SIZED then E.Sized (token 0 t) (token 0 (kid 1 t))
    else E.SizeCast (token 0 t) (cast_of inner (kid 0 (kid 1 t))))

-- `{ << SIZE { VALUES } }`
abbrev pub stream_of : (Tree → Expr) → ℕ → Tree → Expr
stream_of inner opening t =
    E.Stream opening (stream_operator_by (row_of (kid 0 t))) (token 0 (kid 0 t)) (slice_size_of inner (kid 1 t)) (token 2 t) (exprs_of inner (kid 3 t)) (token 4 t) (token 5 t)

-- `{ COUNT { VALUES } }` or `{ VALUES }`
abbrev pub replication_of : (Tree → Expr) → ℕ → Tree → Tree → Expr
replication_of inner opening first rest =
    E.Replication opening (inner first) (token 0 rest) (exprs_of inner (kid 1 rest)) (token 2 rest) (token 3 rest)

abbrev pub concatenation_of : (Tree → Expr) → ℕ → Tree → Tree → Expr
concatenation_of inner opening first rest =
    E.Concatenation opening (inner first ∷ behind_marks inner (kids_of (kid 0 rest))) (token 1 rest)

abbrev pub braced_of : (Tree → Expr) → ℕ → Tree → Expr
braced_of inner opening t =
    if row_of t == R.STREAM then stream_of inner opening t
    else (if row_of (kid 1 t) == R.REPLICATION then replication_of inner opening (kid 0 t) (kid 1 t)
    else concatenation_of inner opening (kid 0 t) (kid 1 t))

-- a name, with arguments or selects and a cast
abbrev pub call_of : (Tree → Expr) → QualifiedName → Tree → Tree → Expr
call_of inner name t cast = E.Call name (token 0 t) (exprs_of inner (kid 1 t)) (token 2 t) (optional_cast_of inner cast)

abbrev pub named_of : (Tree → Expr) → QualifiedName → Tree → Tree → Expr
named_of inner name t cast = E.Name name (selects_of inner t) (optional_cast_of inner cast)

abbrev pub name_from : (Tree → Expr) → QualifiedName → Tree → Tree → Expr
name_from inner name t cast = if row_of t == R.ARGUMENTS then call_of inner name t cast else named_of inner name t cast

abbrev pub name_primary_of : (Tree → Expr) → Tree → Expr
name_primary_of inner t = name_from inner (qualified_of (token 0 t) (kid 0 (kid 1 t))) (kid 1 (kid 1 t)) (kid 2 (kid 1 t))

-- `signed CAST`
abbrev pub signing_cast_of : (Tree → Expr) → Tree → Expr
signing_cast_of inner t = E.SigningCast (signing_of (kid 0 t)) (cast_of inner (kid 1 t))

-- `( VALUE )`, `' { PATTERN }`, a type and a call of a system function
abbrev pub parenthesized_of : (Tree → Expr) → Tree → Expr
parenthesized_of inner t = E.Parenthesized (token 0 t) (inner (kid 1 t)) (token 2 t) (optional_cast_of inner (kid 3 t))

abbrev pub braced_pattern_of : (Tree → Expr) → Tree → Expr
braced_pattern_of inner t = E.Pattern (token 0 t) (token 1 t) (pattern_of inner (kid 2 t)) (token 3 t)

abbrev pub type_primary_of : (Tree → Expr) → Tree → Expr
type_primary_of inner t = E.Type (keyword_type_of (kid 0 t)) (dimensions_of inner (kid 1 t)) (optional_cast_of inner (kid 2 t))

abbrev pub system_call_of : (Tree → Expr) → Tree → Expr
system_call_of inner t = E.SystemCall (token 0 t) (token 1 t) (inner (kid 2 t)) (token 3 t)

-- what is no operation
abbrev pub primary_of : (Tree → Expr) → Tree → Expr
primary_of inner t =
    if row_of t == R.DECIMAL_PRIMARY then decimal_of inner t
    else (if row_of t == R.BASED_PRIMARY then E.Based (token 0 t)
    else (if row_of t == R.FILL_PRIMARY then E.Fill (token 0 t)
    else (if row_of t == R.PARENTHESIZED_PRIMARY then parenthesized_of inner t
    else (if row_of t == R.BRACED_PRIMARY then braced_of inner (token 0 t) (kid 1 t)
    else (if row_of t == R.PATTERN_PRIMARY then braced_pattern_of inner t
    else (if row_of t == R.TYPE_PRIMARY then type_primary_of inner t
    else (if row_of t == R.SIGNING_PRIMARY then signing_cast_of inner t
    else (if row_of t == R.SYSTEM_PRIMARY then system_call_of inner t
    else name_primary_of inner t))))))))

-- an operator and its operand
abbrev pub operated_of : (Tree → Expr) → Tree → Expr
operated_of operand t = E.Unary (unary_operator_by (row_of (kid 0 t))) (token 0 (kid 0 t)) (operand (kid 1 t))

-- a primary behind at most so many operators
unfoldable pub unary_within : (Tree → Expr) → ℕ → Tree → Expr
unary_within inner zero t = primary_of inner (kid 0 t)
unary_within inner (suc operators) t =
    if row_of t == R.UNARY_OPERATION then operated_of (unary_within inner operators) t
    else primary_of inner (kid 0 t)

-- The row that has the operator before an operand: that of the operator, or, where it is a mark, that of both.
abbrev pub operator_row_by : ℕ → Tree-F Tree → ℕ
operator_row_by outer (Tree-F.Leaf at) = outer
operator_row_by outer (Tree-F.Node row kids) = row

abbrev pub operator_row : Tree → ℕ
operator_row t = operator_row_by (row_of t) (out-Tree (kid 0 t))

-- a left operand, joined with an operator and an operand behind it
abbrev pub inside_of : (Tree → Expr) → Expr → Tree → Expr
inside_of inner value t = E.Inside value (token 0 t) (token 1 t) (value_ranges_from inner (kids_of (kid 2 t))) (token 3 t)

abbrev pub binary_of : (Tree → Expr) → Expr → Tree → Expr
binary_of operand left t = E.Binary left (binary_operator_by (operator_row t)) (mark (kid 0 t)) (operand (kid 1 t))

abbrev pub joined_with : (Tree → Expr) → (Tree → Expr) → Expr → Tree → Expr
joined_with inner operand left t = if row_of t == R.INSIDE then inside_of inner left t else binary_of operand left t

-- a chain of operators of one precedence, from the left
abbrev pub chain_of : (Tree → Expr) → (Tree → Expr) → Expr → List Tree → Expr
chain_of inner operand left [] = left
chain_of inner operand left (t ∷ ts) = chain_of inner operand (joined_with inner operand left t) ts

-- operators of so many levels of precedence over operands that `unary` gives
unfoldable pub operation_within : (Tree → Expr) → (Tree → Expr) → ℕ → Tree → Expr
operation_within inner unary zero t = unary t
operation_within inner unary (suc levels) t =
    chain_of inner (operation_within inner unary levels) (operation_within inner unary levels (kid 0 t)) (drop 1 (kids_of t))

-- the levels of precedence of operators between two operands
abbrev pub precedence_levels : ℕ
precedence_levels = 11

-- the most nesting of a text
abbrev pub nesting_limit : ℕ
nesting_limit = 256

abbrev pub level_of : (Tree → Expr) → ℕ → Tree → Expr
level_of inner levels t = operation_within inner (unary_within inner nesting_limit) levels t

abbrev pub operation_of : (Tree → Expr) → Tree → Expr
operation_of inner t = level_of inner precedence_levels t

abbrev pub choice_of : (Tree → Expr) → Expr → Expr → Tree → Expr
choice_of inner test first t = E.Conditional test (token 0 t) first (token 2 t) (inner (kid 3 t))

abbrev pub conditional_of : (Tree → Expr) → Expr → Tree → Expr
conditional_of inner test t = choice_of inner test (inner (kid 1 t)) t

abbrev pub conditional_from : (Tree → Expr) → Expr → Tree → Expr
conditional_from inner test rest = if is_blank rest then test else conditional_of inner test rest

-- an expression around these
abbrev pub expr_around : (Tree → Expr) → Tree → Expr
expr_around inner t = conditional_from inner (operation_of inner (kid 0 t)) (kid 1 t)

-- an expression in which expressions nest at most so deep; none nests deeper in a text
unfoldable pub expr_within : ℕ → Tree → Expr
expr_within zero t = E.Decimal 0
expr_within (suc depth) t = expr_around (expr_within depth) t

abbrev pub expr_of : Tree → Expr
expr_of t = expr_within nesting_limit t
