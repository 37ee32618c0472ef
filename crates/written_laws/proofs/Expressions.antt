-- The expressions that are read from a text are written.
use Rattle.std.proofs.Common.{◌≡◌, ℕ, zero, suc, true, ◌==◌, List, [], ◌∷◌, map, drop, Option, Some, None, refl}
use Rattle.std.specs.Option.{option_map}
use Rattle.std.proofs.lemmas.Bool.{eqb-true}
use Rattle.ll_engine.specs.declared.tree.Tree.{Tree}
use Rattle.sv_tree.specs.declared.expressions.Cast.{Cast}
use Rattle.sv_tree.specs.declared.expressions.Cast.TheVariants as C
use Rattle.sv_tree.specs.declared.expressions.Dimension.{Dimension}
use Rattle.sv_tree.specs.declared.expressions.Dimension.TheVariants as D
use Rattle.sv_tree.specs.declared.expressions.Expr.{Expr}
use Rattle.sv_tree.specs.declared.expressions.Expr.TheVariants as E
use Rattle.sv_tree.specs.declared.expressions.Pattern.TheVariants as P
use Rattle.sv_tree.specs.declared.expressions.PatternItem.TheVariants as I
use Rattle.sv_tree.specs.declared.expressions.Select.{Select}
use Rattle.sv_tree.specs.declared.expressions.Select.TheVariants as S
use Rattle.sv_tree.specs.declared.expressions.SliceSize.{SliceSize}
use Rattle.sv_tree.specs.declared.expressions.SliceSize.TheVariants as Z
use Rattle.sv_tree.specs.declared.expressions.ValueRange.TheVariants as V
use Rattle.sv_tree.specs.declared.names.QualifiedName.{QualifiedName}
use Rattle.sv_tree.specs.declared.operators.StreamOperator.{StreamOperator}
use Rattle.sv_tree.specs.declared.types.KeywordType.{KeywordType}
use Rattle.typing_walks.specs.Written.{all, some_and_all, if_there, is_written, cast_written, dimension_written, pattern_written, item_written, select_written, slice_written, range_written}
use Rattle.expr_build.specs.declared.rows.TheConstants as R
use Rattle.expr_build.specs.Nodes.{kids_of, kid, token, row_of, is_blank}
use Rattle.expr_build.specs.Expressions as X
use Rattle.expr_build.specs.Expressions.{expr_within, unary_within, operation_within, chain_of, expr_of, nesting_limit, precedence_levels}
use Rattle.written_laws.proofs.Tests.{both, by-test, by-either}
use Rattle.written_laws.proofs.Nodes.{Good, AllGood, kid-good, kids-good, drop-good}
use Rattle.written_laws.proofs.Rows.{stream-values, replication-values}
use Rattle.written_laws.proofs.Lists as L
use Rattle.written_laws.proofs.Lists.{Written}
use Rattle.written_laws.proofs.Levels.{cast-is, dimension-is, expr-is, pattern-is, pattern-item-is, select-is, slice-is, range-is}

-- forms with a part that may be left out
name-form : (of : QualifiedName) (ss : List Select) (o : Option Cast) → all (map select_written ss) ≡ true → if_there (option_map cast_written o) ≡ true → is_written (E.Name of ss o) ≡ true
name-form of ss None v w = expr-is _ (E.rolls-Name of ss None) (both v refl)
name-form of ss (Some c) v w = expr-is _ (E.rolls-Name of ss (Some c)) (both v w)

call-form : (of : QualifiedName) (opening : ℕ) (es : List Expr) (closing : ℕ) (o : Option Cast) → all (map is_written es) ≡ true → if_there (option_map cast_written o) ≡ true
    → is_written (E.Call of opening es closing o) ≡ true
call-form of opening es closing None v w = expr-is _ (E.rolls-Call of opening es closing None) (both v refl)
call-form of opening es closing (Some c) v w = expr-is _ (E.rolls-Call of opening es closing (Some c)) (both v w)

parenthesized-form : (opening : ℕ) (e : Expr) (closing : ℕ) (o : Option Cast) → is_written e ≡ true → if_there (option_map cast_written o) ≡ true → is_written (E.Parenthesized opening e closing o) ≡ true
parenthesized-form opening e closing None v w = expr-is _ (E.rolls-Parenthesized opening e closing None) (both v refl)
parenthesized-form opening e closing (Some c) v w = expr-is _ (E.rolls-Parenthesized opening e closing (Some c)) (both v w)

type-form : (of : KeywordType) (ds : List Dimension) (o : Option Cast) → all (map dimension_written ds) ≡ true → if_there (option_map cast_written o) ≡ true → is_written (E.Type of ds o) ≡ true
type-form of ds None v w = expr-is _ (E.rolls-Type of ds None) (both v refl)
type-form of ds (Some c) v w = expr-is _ (E.rolls-Type of ds (Some c)) (both v w)

stream-form : (opening : ℕ) (op : StreamOperator) (at : ℕ) (o : Option SliceSize) (inner : ℕ) (es : List Expr) (inner_closing closing : ℕ)
    → if_there (option_map slice_written o) ≡ true → some_and_all (map is_written es) ≡ true → is_written (E.Stream opening op at o inner es inner_closing closing) ≡ true
stream-form opening op at None inner es inner_closing closing v w = expr-is _ (E.rolls-Stream opening op at None inner es inner_closing closing) (both refl w)
stream-form opening op at (Some z) inner es inner_closing closing v w = expr-is _ (E.rolls-Stream opening op at (Some z) inner es inner_closing closing) (both v w)

module _ (inner : Tree → Expr) (ok : Written is_written inner) where
  in-kid : (n : ℕ) (t : Tree) → Good t → is_written (inner (kid n t)) ≡ true
  in-kid n t g = ok (kid n t) (kid-good n t g)

  exprs-written : (t : Tree) → Good t → all (map is_written (X.exprs_of inner t)) ≡ true
  exprs-written t g = L.all-items is_written inner ok t g

  pub dimension-written : Written dimension_written (X.dimension_of inner)
  dimension-written t g =
      by-either dimension_written (is_blank (kid 2 t)) _ _
      (dimension-is _ (D.rolls-Size _ _ _) (in-kid 1 t g))
      (dimension-is _ (D.rolls-Range _ _ _ _ _) (both (in-kid 1 t g) (in-kid 1 (kid 2 t) (kid-good 2 t g))))

  dimensions-written : (t : Tree) → Good t → all (map dimension_written (X.dimensions_of inner t)) ≡ true
  dimensions-written t g = L.all-kids dimension_written (X.dimension_of inner) dimension-written t g

  bracketed-written : Written select_written (X.bracketed_of inner)
  bracketed-written t g =
      by-either select_written (is_blank (kid 2 t)) _ _
      (select-is _ (S.rolls-Index _ _ _) (in-kid 1 t g))
      (select-is _ (S.rolls-Part _ _ _ _ _ _) (both (in-kid 1 t g) (in-kid 1 (kid 2 t) (kid-good 2 t g))))

  pub select-written : Written select_written (X.select_of inner)
  select-written t g = by-either select_written (row_of t == R.MEMBER_SELECT) _ _ (select-is _ (S.rolls-Member _ _) refl) (bracketed-written t g)

  selects-written : (t : Tree) → Good t → all (map select_written (X.selects_of inner t)) ≡ true
  selects-written t g = L.all-kids select_written (X.select_of inner) select-written t g

  -- patterns
  default-written : Written item_written (X.default_item inner)
  default-written t g = pattern-item-is _ (I.rolls-Default _ _ _) (in-kid 2 t g)

  keyed-written : (key rest : Tree) → Good key → Good rest → item_written (X.keyed_item inner key rest) ≡ true
  keyed-written key rest g h = pattern-item-is _ (I.rolls-Keyed _ _ _) (both (ok key g) (in-kid 1 rest h))

  value-written : Written item_written (λ t. I.Value (inner t))
  value-written t g = pattern-item-is _ (I.rolls-Value _) (ok t g)

  pattern-item-written : Written item_written (X.pattern_item_of inner)
  pattern-item-written t g =
      by-either item_written (row_of t == R.DEFAULT_ITEM) _ _ (default-written t g)
      (by-either item_written (is_blank (kid 1 t)) _ _ (value-written (kid 0 t) (kid-good 0 t g)) (keyed-written (kid 0 t) (kid 1 t) (kid-good 0 t g) (kid-good 1 t g)))

  more-written : (ts : List Tree) → AllGood ts → all (map item_written (X.more_items inner ts)) ≡ true
  more-written ts g = L.all-behind item_written (X.pattern_item_of inner) pattern-item-written ts g

  more-behind : (n : ℕ) (t : Tree) → Good t → all (map item_written (X.more_items inner (drop n (kids_of t)))) ≡ true
  more-behind n t g = more-written (drop n (kids_of t)) (drop-good n (kids_of t) (kids-good t g))

  pattern-from-written : (first rest : Tree) → Good first → Good rest → pattern_written (X.pattern_from inner first rest) ≡ true
  pattern-from-written first rest g h =
      by-either pattern_written (row_of rest == R.KEYED_FIRST) _ _
      (pattern-is _ (P.rolls-Items _) (both (keyed-written first rest g h) (more-behind 2 rest h)))
      (by-either pattern_written (row_of rest == R.PATTERN_REPLICATION) _ _
      (pattern-is _ (P.rolls-Replication _ _ _ _) (both (ok first g) (exprs-written (kid 1 rest) (kid-good 1 rest h))))
      (pattern-is _ (P.rolls-Items _) (both (value-written first g) (more-written (kids_of rest) (kids-good rest h)))))

  pattern-of-written : Written pattern_written (X.pattern_of inner)
  pattern-of-written t g =
      by-either pattern_written (row_of t == R.DEFAULT_FIRST) _ _
      (pattern-is _ (P.rolls-Items _) (both (default-written t g) (more-behind 3 t g)))
      (pattern-from-written (kid 0 t) (kid 1 t) (kid-good 0 t g) (kid-good 1 t g))

  -- casts
  cast-from-written : (tick : ℕ) → Written cast_written (X.cast_from inner tick)
  cast-from-written tick t g =
      by-either cast_written (row_of t == R.VALUE_CAST) _ _
      (cast-is _ (C.rolls-Value _ _ _ _) (in-kid 1 t g))
      (cast-is _ (C.rolls-Pattern _ _ _ _) (pattern-of-written (kid 1 t) (kid-good 1 t g)))

  cast-of-written : Written cast_written (X.cast_of inner)
  cast-of-written t g = cast-from-written (token 0 t) (kid 1 t) (kid-good 1 t g)

  cast-in-written : Written cast_written (λ some. X.cast_of inner (kid 0 some))
  cast-in-written t g = cast-of-written (kid 0 t) (kid-good 0 t g)

  optional-cast : (t : Tree) → Good t → if_there (option_map cast_written (X.optional_cast_of inner t)) ≡ true
  optional-cast t g = L.if-read cast_written (λ some. X.cast_of inner (kid 0 some)) cast-in-written t g

  -- the size of a stream's slice
  slice-from-written : Written slice_written (X.slice_size_from inner)
  slice-from-written t g =
      by-either slice_written (row_of t == R.DECIMAL_SLICE) _ _ (slice-is _ (Z.rolls-Decimal _) refl)
      (by-either slice_written (row_of t == R.KEYWORD_SLICE) _ _ (slice-is _ (Z.rolls-Keyword _) refl)
      (by-either slice_written (row_of t == R.NAME_SLICE) _ _ (slice-is _ (Z.rolls-Name _) refl)
      (slice-is _ (Z.rolls-Parenthesized _ _ _) (in-kid 1 t g))))

  pub slice-size-written : (t : Tree) → Good t → if_there (option_map slice_written (X.slice_size_of inner t)) ≡ true
  slice-size-written t g = L.if-read slice_written (X.slice_size_from inner) slice-from-written t g

  value-range-written : Written range_written (X.value_range_of inner)
  value-range-written t g =
      by-either range_written (row_of t == R.VALUE_ITEM) _ _
      (range-is _ (V.rolls-Value _) (in-kid 0 t g))
      (range-is _ (V.rolls-Range _ _ _ _ _) (both (in-kid 1 t g) (in-kid 3 t g)))

  -- primaries
  decimal-written : Written is_written (X.decimal_of inner)
  decimal-written t g =
      by-either is_written (is_blank (kid 1 t)) _ _ (expr-is _ (E.rolls-Decimal _) refl)
      (by-either is_written (row_of (kid 1 t) == R.SIZED) _ _ (expr-is _ (E.rolls-Sized _ _) refl)
      (expr-is _ (E.rolls-SizeCast _ _) (cast-of-written (kid 0 (kid 1 t)) (kid-good 0 (kid 1 t) (kid-good 1 t g)))))

  stream-written : (opening : ℕ) (t : Tree) → Good t → (row_of t == R.STREAM) ≡ true → is_written (X.stream_of inner opening t) ≡ true
  stream-written opening t g e =
      stream-form _ _ _ _ _ _ _ _ (slice-size-written (kid 1 t) (kid-good 1 t g))
      (L.some-items is_written inner ok (kid 3 t) (stream-values t g (eqb-true (row_of t) R.STREAM e)) (kid-good 3 t g))

  replication-written : (opening : ℕ) (first rest : Tree) → Good first → Good rest → (row_of rest == R.REPLICATION) ≡ true → is_written (X.replication_of inner opening first rest) ≡ true
  replication-written opening first rest g h e =
      expr-is _ (E.rolls-Replication _ _ _ _ _ _)
      (both (ok first g) (L.some-items is_written inner ok (kid 1 rest) (replication-values rest h (eqb-true (row_of rest) R.REPLICATION e)) (kid-good 1 rest h)))

  concatenation-written : (opening : ℕ) (first rest : Tree) → Good first → Good rest → is_written (X.concatenation_of inner opening first rest) ≡ true
  concatenation-written opening first rest g h =
      expr-is _ (E.rolls-Concatenation _ _ _)
      (both (ok first g) (L.all-behind is_written inner ok (kids_of (kid 0 rest)) (kids-good (kid 0 rest) (kid-good 0 rest h))))

  braced-written : (opening : ℕ) → Written is_written (X.braced_of inner opening)
  braced-written opening t g =
      by-test is_written (row_of t == R.STREAM) _ _ (λ e. stream-written opening t g e)
      (λ n. by-test is_written (row_of (kid 1 t) == R.REPLICATION) _ _
      (λ e. replication-written opening (kid 0 t) (kid 1 t) (kid-good 0 t g) (kid-good 1 t g) e)
      (λ m. concatenation-written opening (kid 0 t) (kid 1 t) (kid-good 0 t g) (kid-good 1 t g)))

  name-from-written : (name : QualifiedName) (t cast : Tree) → Good t → Good cast → is_written (X.name_from inner name t cast) ≡ true
  name-from-written name t cast g h =
      by-either is_written (row_of t == R.ARGUMENTS) _ _
      (call-form _ _ _ _ _ (exprs-written (kid 1 t) (kid-good 1 t g)) (optional-cast cast h))
      (name-form _ _ _ (selects-written t g) (optional-cast cast h))

  name-written : Written is_written (X.name_primary_of inner)
  name-written t g =
      let rest = kid-good 1 t g in
      name-from-written _ (kid 1 (kid 1 t)) (kid 2 (kid 1 t)) (kid-good 1 (kid 1 t) rest) (kid-good 2 (kid 1 t) rest)

  parenthesized-written : Written is_written (X.parenthesized_of inner)
  parenthesized-written t g = parenthesized-form _ _ _ _ (in-kid 1 t g) (optional-cast (kid 3 t) (kid-good 3 t g))

  braced-pattern-written : Written is_written (X.braced_pattern_of inner)
  braced-pattern-written t g = expr-is _ (E.rolls-Pattern _ _ _ _) (pattern-of-written (kid 2 t) (kid-good 2 t g))

  type-written : Written is_written (X.type_primary_of inner)
  type-written t g = type-form _ _ _ (dimensions-written (kid 1 t) (kid-good 1 t g)) (optional-cast (kid 2 t) (kid-good 2 t g))

  signing-written : Written is_written (X.signing_cast_of inner)
  signing-written t g = expr-is _ (E.rolls-SigningCast _ _) (cast-of-written (kid 1 t) (kid-good 1 t g))

  system-written : Written is_written (X.system_call_of inner)
  system-written t g = expr-is _ (E.rolls-SystemCall _ _ _ _) (in-kid 2 t g)

  primary-written : Written is_written (X.primary_of inner)
  primary-written t g =
      by-either is_written (row_of t == R.DECIMAL_PRIMARY) _ _ (decimal-written t g)
      (by-either is_written (row_of t == R.BASED_PRIMARY) _ _ (expr-is _ (E.rolls-Based _) refl)
      (by-either is_written (row_of t == R.FILL_PRIMARY) _ _ (expr-is _ (E.rolls-Fill _) refl)
      (by-either is_written (row_of t == R.PARENTHESIZED_PRIMARY) _ _ (parenthesized-written t g)
      (by-either is_written (row_of t == R.BRACED_PRIMARY) _ _ (braced-written (token 0 t) (kid 1 t) (kid-good 1 t g))
      (by-either is_written (row_of t == R.PATTERN_PRIMARY) _ _ (braced-pattern-written t g)
      (by-either is_written (row_of t == R.TYPE_PRIMARY) _ _ (type-written t g)
      (by-either is_written (row_of t == R.SIGNING_PRIMARY) _ _ (signing-written t g)
      (by-either is_written (row_of t == R.SYSTEM_PRIMARY) _ _ (system-written t g) (name-written t g)))))))))

  -- operations
  operated-written : (operand : Tree → Expr) → Written is_written operand → Written is_written (X.operated_of operand)
  operated-written operand o t g = expr-is _ (E.rolls-Unary _ _ _) (o (kid 1 t) (kid-good 1 t g))

  unary-written : (operators : ℕ) → Written is_written (unary_within inner operators)
  unfolding unary_within
  unary-written zero t g = primary-written (kid 0 t) (kid-good 0 t g)
  unary-written (suc operators) t g =
      by-either is_written (row_of t == R.UNARY_OPERATION) _ _ (operated-written (unary_within inner operators) (unary-written operators) t g)
      (primary-written (kid 0 t) (kid-good 0 t g))

  joined-written : (operand : Tree → Expr) (left : Expr) (t : Tree) → Written is_written operand → is_written left ≡ true → Good t → is_written (X.joined_with inner operand left t) ≡ true
  joined-written operand left t o l g =
      by-either is_written (row_of t == R.INSIDE) _ _
      (expr-is _ (E.rolls-Inside _ _ _ _ _) (both l (L.all-items range_written (X.value_range_of inner) value-range-written (kid 2 t) (kid-good 2 t g))))
      (expr-is _ (E.rolls-Binary _ _ _ _) (both l (o (kid 1 t) (kid-good 1 t g))))

  chain-written : (operand : Tree → Expr) (left : Expr) (ts : List Tree) → Written is_written operand → is_written left ≡ true → AllGood ts → is_written (chain_of inner operand left ts) ≡ true
  chain-written operand left [] o l g = l
  chain-written operand left (t ∷ ts) o l g = chain-written operand (X.joined_with inner operand left t) ts o (joined-written operand left t o l g.0) g.1

  operation-written : (unary : Tree → Expr) (levels : ℕ) → Written is_written unary → Written is_written (operation_within inner unary levels)
  unfolding operation_within
  operation-written unary zero u t g = u t g
  operation-written unary (suc levels) u t g =
      let operand = operation-written unary levels u in
      chain-written (operation_within inner unary levels) (operation_within inner unary levels (kid 0 t)) (drop 1 (kids_of t)) operand (operand (kid 0 t) (kid-good 0 t g))
      (drop-good 1 (kids_of t) (kids-good t g))

  conditional-written : (test : Expr) (rest : Tree) → is_written test ≡ true → Good rest → is_written (X.conditional_from inner test rest) ≡ true
  conditional-written test rest e g =
      by-either is_written (is_blank rest) _ _ e (expr-is _ (E.rolls-Conditional _ _ _ _ _) (both e (both (in-kid 1 rest g) (in-kid 3 rest g))))

  around-written : Written is_written (X.expr_around inner)
  around-written t g =
      conditional-written _ (kid 1 t) (operation-written (unary_within inner nesting_limit) precedence_levels (unary-written nesting_limit) (kid 0 t) (kid-good 0 t g)) (kid-good 1 t g)

-- expressions, however deep
pub within-written : (depth : ℕ) → Written is_written (expr_within depth)
unfolding expr_within
within-written zero t g = expr-is _ (E.rolls-Decimal _) refl
within-written (suc depth) t g = around-written (expr_within depth) (within-written depth) t g

pub expr-written : Written is_written expr_of
expr-written t g = within-written nesting_limit t g

pub dims-written : (t : Tree) → Good t → all (map dimension_written (X.dimensions_of expr_of t)) ≡ true
dims-written t g = dimensions-written expr_of expr-written t g

pub all-exprs : (t : Tree) → Good t → all (map is_written (X.exprs_of expr_of t)) ≡ true
all-exprs t g = exprs-written expr_of expr-written t g

pub all-selects : (t : Tree) → Good t → all (map select_written (X.selects_of expr_of t)) ≡ true
all-selects t g = selects-written expr_of expr-written t g
