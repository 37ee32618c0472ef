-- The tokens of the expressions that are read from a text ascend.
use Rattle.std.proofs.Common.{◌≡◌, ℕ, zero, suc, ◌+◌, ◌<◌, ◌≤◌, true, false, ◌==◌, List, [], ◌∷◌, ◌++◌, map, drop, Option, Some, None, refl, sym, ◌∙◌, subst, arith}
use Rattle.std.specs.Option.{option_map}
use Rattle.ll_engine.specs.declared.tree.Tree.{Tree}
use Rattle.sv_tree.specs.Extents.{signing_token}
use Rattle.sv_tree.specs.Heads as head
use Rattle.sv_tree.specs.declared.expressions.Cast.{Cast}
use Rattle.sv_tree.specs.declared.expressions.Cast.TheVariants as C
use Rattle.sv_tree.specs.declared.expressions.Dimension.{Dimension}
use Rattle.sv_tree.specs.declared.expressions.Dimension.TheVariants as D
use Rattle.sv_tree.specs.declared.expressions.Expr.{Expr}
use Rattle.sv_tree.specs.declared.expressions.Expr.TheVariants as E
use Rattle.sv_tree.specs.declared.expressions.Pattern.{Pattern}
use Rattle.sv_tree.specs.declared.expressions.Pattern.TheVariants as P
use Rattle.sv_tree.specs.declared.expressions.PatternItem.{PatternItem}
use Rattle.sv_tree.specs.declared.expressions.PatternItem.TheVariants as I
use Rattle.sv_tree.specs.declared.expressions.Select.{Select}
use Rattle.sv_tree.specs.declared.expressions.Select.TheVariants as S
use Rattle.sv_tree.specs.declared.expressions.SliceSize.{SliceSize}
use Rattle.sv_tree.specs.declared.expressions.SliceSize.TheVariants as Z
use Rattle.sv_tree.specs.declared.expressions.ValueRange.{ValueRange}
use Rattle.sv_tree.specs.declared.expressions.ValueRange.TheVariants as V
use Rattle.sv_tree.specs.declared.names.QualifiedName.{QualifiedName}
use Rattle.sv_tree.specs.declared.names.Signing.{Signing}
use Rattle.sv_tree.specs.declared.operators.StreamOperator.{StreamOperator}
use Rattle.sv_tree.specs.declared.types.KeywordType.{KeywordType}
use Rattle.expr_build.specs.declared.rows.TheConstants as R
use Rattle.expr_build.specs.Nodes.{kids_of, kid, token, mark, row_of, is_blank}
use Rattle.expr_build.specs.Words.{signing_of, qualified_of}
use Rattle.expr_build.specs.Expressions as X
use Rattle.expr_build.specs.Expressions.{expr_within, unary_within, operation_within, chain_of, expr_of, nesting_limit, precedence_levels}
use Rattle.expr_type.specs.Placed.{Ascend}
use Rattle.expr_type.proofs.Ordering.{ascend-wider}
use Rattle.order_laws.specs.Ordered.{in_row, if_there, name_tokens, cast_tokens, dimension_tokens, expr_tokens, pattern_tokens, pattern_item_tokens, select_tokens, slice_tokens, range_tokens, dims_tokens, selects_tokens, exprs_tokens}
use Rattle.least_laws.proofs.Tests.{by-test, decide}
use Rattle.least_laws.proofs.Spans.{Spans, AllSpan, Facts, spans-lower, mark-node}
use Rattle.least_laws.proofs.Spans.Shape.{Token, One, Each}
use Rattle.least_laws.proofs.ExpressionRows as G
use Rattle.least_laws.proofs.Levels.{cast-is, dimension-is, expr-is, pattern-is, pattern-item-is, select-is, slice-is, range-is}
use Rattle.least_laws.proofs.Lists as L
use Rattle.least_laws.proofs.Lists.{Ordered, OrderedIf, append}

-- forms with a part that may be left out
name-form : (lo hi : ℕ) (of : QualifiedName) (ss : List Select) (o : Option Cast) → Ascend lo hi (name_tokens of ++ (in_row (map select_tokens ss) ++ if_there (option_map cast_tokens o)))
    → Ascend lo hi (expr_tokens (E.Name of ss o))
name-form lo hi of ss None a = expr-is lo hi _ (E.rolls-Name of ss None) a
name-form lo hi of ss (Some c) a = expr-is lo hi _ (E.rolls-Name of ss (Some c)) a

call-form : (lo hi : ℕ) (of : QualifiedName) (opening : ℕ) (es : List Expr) (closing : ℕ) (o : Option Cast)
    → Ascend lo hi (name_tokens of ++ (opening ∷ (in_row (map expr_tokens es) ++ (closing ∷ if_there (option_map cast_tokens o))))) → Ascend lo hi (expr_tokens (E.Call of opening es closing o))
call-form lo hi of opening es closing None a = expr-is lo hi _ (E.rolls-Call of opening es closing None) a
call-form lo hi of opening es closing (Some c) a = expr-is lo hi _ (E.rolls-Call of opening es closing (Some c)) a

parenthesized-form : (lo hi : ℕ) (opening : ℕ) (e : Expr) (closing : ℕ) (o : Option Cast) → Ascend lo hi (opening ∷ (expr_tokens e ++ (closing ∷ if_there (option_map cast_tokens o))))
    → Ascend lo hi (expr_tokens (E.Parenthesized opening e closing o))
parenthesized-form lo hi opening e closing None a = expr-is lo hi _ (E.rolls-Parenthesized opening e closing None) a
parenthesized-form lo hi opening e closing (Some c) a = expr-is lo hi _ (E.rolls-Parenthesized opening e closing (Some c)) a

type-form : (lo hi : ℕ) (of : KeywordType) (ds : List Dimension) (o : Option Cast) → Ascend lo hi (of.at ∷ (in_row (map dimension_tokens ds) ++ if_there (option_map cast_tokens o)))
    → Ascend lo hi (expr_tokens (E.Type of ds o))
type-form lo hi of ds None a = expr-is lo hi _ (E.rolls-Type of ds None) a
type-form lo hi of ds (Some c) a = expr-is lo hi _ (E.rolls-Type of ds (Some c)) a

stream-form : (lo hi : ℕ) (opening : ℕ) (op : StreamOperator) (at : ℕ) (o : Option SliceSize) (inner : ℕ) (es : List Expr) (inner_closing closing : ℕ)
    → Ascend lo hi (opening ∷ (if_there (option_map slice_tokens o) ++ in_row (map expr_tokens es))) → Ascend lo hi (expr_tokens (E.Stream opening op at o inner es inner_closing closing))
stream-form lo hi opening op at None inner es inner_closing closing a = expr-is lo hi _ (E.rolls-Stream opening op at None inner es inner_closing closing) a
stream-form lo hi opening op at (Some z) inner es inner_closing closing a = expr-is lo hi _ (E.rolls-Stream opening op at (Some z) inner es inner_closing closing) a

-- names, and signs
pub name-ordered : (n first : ℕ) (rest : Tree) (at to lo hi : ℕ) → Spans head.optional_scoped_name n at rest to → lo ≤ first → first < at → to ≤ hi → Ascend lo hi (name_tokens (qualified_of first rest))
name-ordered n first rest at to lo hi s a b c =
    let r = s.rise in
    by-test (λ (q : QualifiedName). Ascend lo hi (name_tokens q)) (is_blank rest) _ _
    (λ e. (a, omega arith, tt))
    (λ e. let f = G.scoped-name s e tt in (a, omega arith, (omega arith, omega arith, tt)))

pub signing-is : (t : Tree) → signing_token (signing_of t) ≡ token 0 t
signing-is t = by-test (λ (x : Signing). signing_token x ≡ token 0 t) (row_of t == R.SIGNED) _ _ (λ e. refl) (λ e. refl)

module _ (n : ℕ) (inner : Tree → Expr) (ok : Ordered head.expression n expr_tokens inner) where
  in-kid : {t : Tree} {at to lo hi : ℕ} → Spans head.expression n at t to → lo ≤ at → to ≤ hi → Ascend lo hi (expr_tokens (inner t))
  in-kid {t} {at} {to} {lo} {hi} s a b = ok t at to lo hi s a b

  pub exprs-ordered : Ordered head.expressions n exprs_tokens (X.exprs_of inner)
  exprs-ordered t at to lo hi s a b = L.items-if head.expression n expr_tokens inner ok head.next_expression (λ x y u r. G.next-expression r) t at to lo hi (λ e. G.expressions s) a b

  pub arguments-ordered : Ordered head.optional_arguments n exprs_tokens (X.exprs_of inner)
  arguments-ordered t at to lo hi s a b = L.items-if head.expression n expr_tokens inner ok head.next_expression (λ x y u r. G.next-expression r) t at to lo hi (λ e. G.arguments s e tt) a b

  -- dimensions and selects
  pub dimension-ordered : Ordered head.dimension n dimension_tokens (X.dimension_of inner)
  dimension-ordered t at to lo hi s a b =
      let f = G.dimension s in
      let e = f.2 in
      let r = e.3 in
      by-test (λ (d : Dimension). Ascend lo hi (dimension_tokens d)) (is_blank (kid 2 t)) _ _
      (λ q. dimension-is _ _ _ (D.rolls-Size _ _ _) (omega arith, omega arith, in-kid e.2 (omega arith) (omega arith)))
      (λ q.
      let g = G.right-bound r.2 q tt in
      dimension-is _ _ _ (D.rolls-Range _ _ _ _ _)
      (omega arith, omega arith, append _ _ e.0 (omega arith) (omega arith) (in-kid e.2 (omega arith) (omega arith)) (in-kid g.2.2 (omega arith) (omega arith))))

  pub dimensions-ordered : Ordered head.dimensions n dims_tokens (X.dimensions_of inner)
  dimensions-ordered t at to lo hi s a b = L.each head.dimension n dimension_tokens (X.dimension_of inner) dimension-ordered (kids_of t) at to lo hi (G.dimensions s) a b

  bracketed-ordered : (t : Tree) (at to lo hi : ℕ) → Facts (Token ∷ One head.expression ∷ One head.optional_part_select_rest ∷ Token ∷ []) 0 n t at to → lo ≤ at → to ≤ hi
      → Ascend lo hi (select_tokens (X.bracketed_of inner t))
  bracketed-ordered t at to lo hi f a b =
      let e = f.2 in
      let r = e.3 in
      by-test (λ (x : Select). Ascend lo hi (select_tokens x)) (is_blank (kid 2 t)) _ _
      (λ q. select-is _ _ _ (S.rolls-Index _ _ _) (omega arith, omega arith, append _ _ e.0 (omega arith) (omega arith) (in-kid e.2 (omega arith) (omega arith)) (omega arith, omega arith, tt)))
      (λ q.
      let g = G.part-select r.2 q tt in
      let o = G.part-operator g.2 in
      select-is _ _ _ (S.rolls-Part _ _ _ _ _ _) (
        omega arith,
        omega arith,
        append _ _ e.0 (omega arith) (omega arith) (in-kid e.2 (omega arith) (omega arith))
            (omega arith, omega arith, in-kid g.3.2 (omega arith) (omega arith)),
      ))

  pub select-ordered : Ordered head.select n select_tokens (X.select_of inner)
  select-ordered t at to lo hi s a b =
      by-test (λ (x : Select). Ascend lo hi (select_tokens x)) (row_of t == R.MEMBER_SELECT) _ _
      (λ e. let f = G.member-select s e in select-is _ _ _ (S.rolls-Member _ _) (omega arith, omega arith, (omega arith, omega arith, tt)))
      (λ e. bracketed-ordered t at to lo hi (G.bracketed s (e, tt)) a b)

  each-select : (ts : List Tree) (at to lo hi : ℕ) → AllSpan head.select n at ts to → lo ≤ at → to ≤ hi → Ascend lo hi (in_row (map select_tokens (map (X.select_of inner) ts)))
  each-select ts at to lo hi s a b = L.each head.select n select_tokens (X.select_of inner) select-ordered ts at to lo hi s a b

  pub selects-ordered : Ordered head.selects n selects_tokens (X.selects_of inner)
  selects-ordered t at to lo hi s a b = each-select (kids_of t) at to lo hi (G.selects s) a b

  -- patterns
  keyed-ordered : (key rest : Tree) (at mid to lo hi : ℕ) → Spans head.expression n at key mid → Spans head.expression n (suc mid) (kid 1 rest) to → lo ≤ at → to ≤ hi
      → Ascend lo hi (pattern_item_tokens (X.keyed_item inner key rest))
  keyed-ordered key rest at mid to lo hi s r a b =
      let c = s.rise in
      let d = r.rise in
      pattern-item-is _ _ _ (I.rolls-Keyed _ _ _) (append _ _ mid (omega arith) (omega arith) (in-kid s (omega arith) (omega arith)) (in-kid r (omega arith) (omega arith)))

  pattern-item-ordered : Ordered head.pattern_item n pattern_item_tokens (X.pattern_item_of inner)
  pattern-item-ordered t at to lo hi s a b =
      by-test (λ (x : PatternItem). Ascend lo hi (pattern_item_tokens x)) (row_of t == R.DEFAULT_ITEM) _ _
      (λ e. let f = G.default-item s e in pattern-item-is _ _ _ (I.rolls-Default _ _ _) (in-kid f.2.2.2 (omega arith) (omega arith)))
      (λ e.
      let f = G.other-item s (e, tt) in
      by-test (λ (x : PatternItem). Ascend lo hi (pattern_item_tokens x)) (is_blank (kid 1 t)) _ _
      (λ q. pattern-item-is _ _ _ (I.rolls-Value _) (in-kid f.2 (omega arith) (omega arith)))
      (λ q. let g = G.pattern-value f.3.2 q tt in keyed-ordered (kid 0 t) (kid 1 t) at f.0 g.2.0 lo hi f.2 g.2.2 a (omega arith)))

  more-ordered : (ts : List Tree) (at to lo hi : ℕ) → AllSpan head.next_pattern_item n at ts to → lo ≤ at → to ≤ hi → Ascend lo hi (in_row (map pattern_item_tokens (X.more_items inner ts)))
  more-ordered ts at to lo hi s a b =
      L.behind head.pattern_item n pattern_item_tokens (X.pattern_item_of inner) pattern-item-ordered head.next_pattern_item (λ x y u r. G.next-pattern-item r) ts at to lo hi s a b

  pattern-from-ordered : (first rest : Tree) (at mid to lo hi : ℕ) → Spans head.expression n at first mid → Spans head.pattern_rest n mid rest to → lo ≤ at → to ≤ hi
      → Ascend lo hi (pattern_tokens (X.pattern_from inner first rest))
  pattern-from-ordered first rest at mid to lo hi s r a b =
      let c = s.rise in
      let d = r.rise in
      by-test (λ (p : Pattern). Ascend lo hi (pattern_tokens p)) (row_of rest == R.KEYED_FIRST) _ _
      (λ e.
      let f = G.keyed-first r e in
      let k = L.all-rise head.next_pattern_item n (drop 2 (kids_of rest)) f.2.0 to f.2.3 in
      pattern-is _ _ _ (P.rolls-Items _)
      (append _ _ f.2.0 (omega arith) (omega arith) (keyed-ordered first rest at mid f.2.0 lo f.2.0 s f.2.2 a (omega arith))
      (more-ordered (drop 2 (kids_of rest)) f.2.0 to f.2.0 hi f.2.3 (omega arith) b)))
      (λ e.
      by-test (λ (p : Pattern). Ascend lo hi (pattern_tokens p)) (row_of rest == R.PATTERN_REPLICATION) _ _
      (λ q.
      let f = G.pattern-replication r q in
      pattern-is _ _ _ (P.rolls-Replication _ _ _ _)
      (append _ _ mid (omega arith) (omega arith) (in-kid s (omega arith) (omega arith)) (exprs-ordered (kid 1 rest) (suc mid) f.2.0 mid hi f.2.2 (omega arith) (omega arith))))
      (λ q.
      pattern-is _ _ _ (P.rolls-Items _)
      (append _ _ mid (omega arith) (omega arith) (pattern-item-is _ _ _ (I.rolls-Value _) (in-kid s (omega arith) (omega arith)))
      (more-ordered (kids_of rest) mid to mid hi (G.more-items r (e, (q, tt))) (omega arith) b))))

  pattern-ordered : Ordered head.pattern_items n pattern_tokens (X.pattern_of inner)
  pattern-ordered t at to lo hi s a b =
      by-test (λ (p : Pattern). Ascend lo hi (pattern_tokens p)) (row_of t == R.DEFAULT_FIRST) _ _
      (λ e.
      let f = G.default-first s e in
      let k = L.all-rise head.next_pattern_item n (drop 3 (kids_of t)) f.2.2.0 to f.2.2.3 in
      pattern-is _ _ _ (P.rolls-Items _)
      (append _ _ f.2.2.0 (omega arith) (omega arith) (pattern-item-is _ _ _ (I.rolls-Default _ _ _) (in-kid f.2.2.2 (omega arith) (omega arith)))
      (more-ordered (drop 3 (kids_of t)) f.2.2.0 to f.2.2.0 hi f.2.2.3 (omega arith) b)))
      (λ e. let f = G.pattern-items s (e, tt) in pattern-from-ordered (kid 0 t) (kid 1 t) at f.0 f.3.0 lo hi f.2 f.3.2 a (omega arith))

  -- casts
  cast-ordered : Ordered head.cast n cast_tokens (X.cast_of inner)
  cast-ordered t at to lo hi s a b =
      let f = G.cast s in
      by-test (λ (c : Cast). Ascend lo hi (cast_tokens c)) (row_of (kid 1 t) == R.VALUE_CAST) _ _
      (λ e. let g = G.value-cast f.2.2 e in cast-is _ _ _ (C.rolls-Value _ _ _ _) (omega arith, omega arith, in-kid g.2.2 (omega arith) (omega arith)))
      (λ e.
      let g = G.pattern-cast f.2.2 (e, tt) in
      cast-is _ _ _ (C.rolls-Pattern _ _ _ _) (omega arith, omega arith, pattern-ordered (kid 1 (kid 1 t)) (suc (suc at)) g.2.0 (suc (token 0 t)) hi g.2.2 (omega arith) (omega arith)))

  optional-cast : (t : Tree) (at to lo hi : ℕ) → Spans head.optional_cast n at t to → lo ≤ at → to ≤ hi → Ascend lo hi (if_there (option_map cast_tokens (X.optional_cast_of inner t)))
  optional-cast t at to lo hi s a b =
      L.if-read head.optional_cast n cast_tokens (λ some. X.cast_of inner (kid 0 some))
      (λ x from end low high r q c d. let f = G.some-cast r q tt in cast-ordered (kid 0 x) from f.0 low high f.2 c (omega arith))
      t at to lo hi s a b

  -- the size of a stream's slice
  slice-ordered : OrderedIf head.optional_slice_size n slice_tokens (X.slice_size_from inner)
  slice-ordered t at to lo hi s q a b =
      by-test (λ (z : SliceSize). Ascend lo hi (slice_tokens z)) (row_of t == R.DECIMAL_SLICE) _ _
      (λ e. let f = G.decimal-slice s e in slice-is _ _ _ (Z.rolls-Decimal _) (omega arith, omega arith, tt))
      (λ d.
      by-test (λ (z : SliceSize). Ascend lo hi (slice_tokens z)) (row_of t == R.KEYWORD_SLICE) _ _
      (λ e.
      let f = G.keyword-slice s e in
      let g = G.keyword-type f.2 in
      let h = G.type-keyword g.2 in
      slice-is _ _ _ (Z.rolls-Keyword _) (omega arith, omega arith, tt))
      (λ k.
      by-test (λ (z : SliceSize). Ascend lo hi (slice_tokens z)) (row_of t == R.NAME_SLICE) _ _
      (λ e. let f = G.name-slice s e in slice-is _ _ _ (Z.rolls-Name _) (name-ordered n (token 0 t) (kid 1 t) (suc at) f.2.0 lo hi f.2.2 (omega arith) (omega arith) (omega arith)))
      (λ m. let f = G.parenthesized-slice s q (d, (k, (m, tt))) in slice-is _ _ _ (Z.rolls-Parenthesized _ _ _) (in-kid f.2.2 (omega arith) (omega arith)))))

  pub slice-size-ordered : (t : Tree) (at to lo hi : ℕ) → Spans head.optional_slice_size n at t to → lo ≤ at → to ≤ hi → Ascend lo hi (if_there (option_map slice_tokens (X.slice_size_of inner t)))
  slice-size-ordered t at to lo hi s a b = L.if-read head.optional_slice_size n slice_tokens (X.slice_size_from inner) slice-ordered t at to lo hi s a b

  value-range-ordered : Ordered head.value_range n range_tokens (X.value_range_of inner)
  value-range-ordered t at to lo hi s a b =
      by-test (λ (v : ValueRange). Ascend lo hi (range_tokens v)) (row_of t == R.VALUE_ITEM) _ _
      (λ e. let f = G.value-item s e in range-is _ _ _ (V.rolls-Value _) (in-kid f.2 (omega arith) (omega arith)))
      (λ e.
      let f = G.range-item s (e, tt) in
      let g = f.2.3.2 in
      range-is _ _ _ (V.rolls-Range _ _ _ _ _) (append _ _ f.2.0 (omega arith) (omega arith) (in-kid f.2.2 (omega arith) (omega arith)) (in-kid g.2 (omega arith) (omega arith))))

  -- primaries
  decimal-ordered : (t : Tree) (at to lo hi : ℕ) → Facts (Token ∷ One head.optional_size_rest ∷ []) 0 n t at to → lo ≤ at → to ≤ hi → Ascend lo hi (expr_tokens (X.decimal_of inner t))
  decimal-ordered t at to lo hi f a b =
      by-test (λ (x : Expr). Ascend lo hi (expr_tokens x)) (is_blank (kid 1 t)) _ _
      (λ e. expr-is _ _ _ (E.rolls-Decimal _) (omega arith, omega arith, tt))
      (λ q.
      by-test (λ (x : Expr). Ascend lo hi (expr_tokens x)) (row_of (kid 1 t) == R.SIZED) _ _
      (λ e. let g = G.sized f.2.2 e in expr-is _ _ _ (E.rolls-Sized _ _) (omega arith, omega arith, (omega arith, omega arith, tt)))
      (λ e.
      let g = G.size-cast f.2.2 q (e, tt) in
      expr-is _ _ _ (E.rolls-SizeCast _ _) (omega arith, omega arith, cast-ordered (kid 0 (kid 1 t)) (suc at) g.0 (suc (token 0 t)) hi g.2 (omega arith) (omega arith))))

  -- what stands behind an opening brace
  stream-ordered : (opening : ℕ) (t : Tree) (at to lo hi : ℕ) → Spans head.primary_brace_rest n at t to → (row_of t == R.STREAM) ≡ true → lo ≤ opening → opening < at → to ≤ hi
      → Ascend lo hi (expr_tokens (X.stream_of inner opening t))
  stream-ordered opening t at to lo hi s e a c b =
      let f = G.stream s e in
      let z = f.3 in
      let v = z.3.2 in
      stream-form _ _ _ _ _ _ _ _ _ _ (
        a,
        omega arith,
        append _ _ z.0 (omega arith) (omega arith) (slice-size-ordered (kid 1 t) f.0 z.0 (suc opening) z.0 z.2 (omega arith) (omega arith))
            (exprs-ordered (kid 3 t) (suc z.0) v.0 z.0 hi v.2 (omega arith) (omega arith)),
      )

  replication-ordered : (opening : ℕ) (first rest : Tree) (at mid to lo hi : ℕ) → Spans head.expression n at first mid → Spans head.concatenation_rest n mid rest to
      → (row_of rest == R.REPLICATION) ≡ true → lo ≤ opening → opening < at → to ≤ hi → Ascend lo hi (expr_tokens (X.replication_of inner opening first rest))
  replication-ordered opening first rest at mid to lo hi s r e a c b =
      let k = s.rise in
      let f = G.replication r e in
      let v = f.2 in
      expr-is _ _ _ (E.rolls-Replication _ _ _ _ _ _) (
        a,
        omega arith,
        append _ _ mid (omega arith) (omega arith) (in-kid s (omega arith) (omega arith)) (
          omega arith,
          omega arith,
          append _ _ v.0 (omega arith) (omega arith) (exprs-ordered (kid 1 rest) (suc mid) v.0 (suc (token 0 rest)) v.0 v.2 (omega arith) (omega arith))
              (omega arith, omega arith, (omega arith, omega arith, tt)),
        ),
      )

  concatenation-ordered : (opening : ℕ) (first rest : Tree) (at mid to lo hi : ℕ) → Spans head.expression n at first mid → Spans head.concatenation_rest n mid rest to
      → (row_of rest == R.REPLICATION) ≡ false → lo ≤ opening → opening < at → to ≤ hi → Ascend lo hi (expr_tokens (X.concatenation_of inner opening first rest))
  concatenation-ordered opening first rest at mid to lo hi s r e a c b =
      let k = s.rise in
      let f = G.concatenation r (e, tt) in
      expr-is _ _ _ (E.rolls-Concatenation _ _ _) (
        a,
        omega arith,
        append _ _ f.0 (omega arith) (omega arith)
            (append _ _ mid (omega arith) (omega arith) (in-kid s (omega arith) (omega arith))
            (L.behind head.expression n expr_tokens inner ok head.next_expression (λ x y u r. G.next-expression r) (kids_of (kid 0 rest)) mid f.0 mid f.0 (G.next-expressions f.2) (omega arith) (omega arith)))
            (omega arith, omega arith, tt),
      )

  braced-ordered : (opening : ℕ) (t : Tree) (at to lo hi : ℕ) → Spans head.primary_brace_rest n at t to → lo ≤ opening → opening < at → to ≤ hi → Ascend lo hi (expr_tokens (X.braced_of inner opening t))
  braced-ordered opening t at to lo hi s a c b =
      by-test (λ (x : Expr). Ascend lo hi (expr_tokens x)) (row_of t == R.STREAM) _ _ (λ e. stream-ordered opening t at to lo hi s e a c b)
      (λ e.
      let f = G.braces s (e, tt) in
      by-test (λ (x : Expr). Ascend lo hi (expr_tokens x)) (row_of (kid 1 t) == R.REPLICATION) _ _
      (λ r. replication-ordered opening (kid 0 t) (kid 1 t) at f.0 f.3.0 lo hi f.2 f.3.2 r a c (omega arith))
      (λ r. concatenation-ordered opening (kid 0 t) (kid 1 t) at f.0 f.3.0 lo hi f.2 f.3.2 r a c (omega arith)))

  -- names and calls
  name-primary-ordered : (t : Tree) (at to lo hi : ℕ) → Facts (Token ∷ One head.primary_name_rest ∷ []) 0 n t at to → lo ≤ at → to ≤ hi → Ascend lo hi (expr_tokens (X.name_primary_of inner t))
  name-primary-ordered t at to lo hi f a b =
      let g = G.name-rest f.2.2 in
      let x = g.3 in
      let y = x.3 in
      by-test (λ (e : Expr). Ascend lo hi (expr_tokens e)) (row_of (kid 1 (kid 1 t)) == R.ARGUMENTS) _ _
      (λ e.
      let h = G.call x.2 e in
      let v = h.2 in
      call-form _ _ _ _ _ _ _
      (append _ _ g.0 (omega arith) (omega arith) (name-ordered n (token 0 t) (kid 0 (kid 1 t)) (suc at) g.0 lo g.0 g.2 (omega arith) (omega arith) (omega arith)) (
        omega arith,
        omega arith,
        append _ _ v.0 (omega arith) (omega arith) (arguments-ordered (kid 1 (kid 1 (kid 1 t))) (suc g.0) v.0 (suc (token 0 (kid 1 (kid 1 t)))) v.0 v.2 (omega arith) (omega arith))
            (omega arith, omega arith, optional-cast (kid 2 (kid 1 t)) x.0 y.0 _ hi y.2 (omega arith) (omega arith)),
      )))
      (λ e.
      name-form _ _ _ _ _
      (append _ _ g.0 (omega arith) (omega arith) (name-ordered n (token 0 t) (kid 0 (kid 1 t)) (suc at) g.0 lo g.0 g.2 (omega arith) (omega arith) (omega arith))
      (append _ _ x.0 (omega arith) (omega arith) (each-select (kids_of (kid 1 (kid 1 t))) g.0 x.0 g.0 x.0 (G.name-selects x.2 (e, tt)) (omega arith) (omega arith))
      (optional-cast (kid 2 (kid 1 t)) x.0 y.0 x.0 hi y.2 (omega arith) (omega arith)))))

  parenthesized-ordered : (t : Tree) (at to lo hi : ℕ) → Facts (Token ∷ One head.expression ∷ Token ∷ One head.optional_cast ∷ []) 0 n t at to → lo ≤ at → to ≤ hi
      → Ascend lo hi (expr_tokens (X.parenthesized_of inner t))
  parenthesized-ordered t at to lo hi f a b =
      let e = f.2 in
      let c = e.3.2 in
      parenthesized-form _ _ _ _ _ _ (
        omega arith,
        omega arith,
        append _ _ e.0 (omega arith) (omega arith) (in-kid e.2 (omega arith) (omega arith))
            (omega arith, omega arith, optional-cast (kid 3 t) (suc e.0) c.0 (suc (token 2 t)) hi c.2 (omega arith) (omega arith)),
      )

  type-primary-ordered : (t : Tree) (at to lo hi : ℕ) → Facts (One head.keyword_type ∷ One head.dimensions ∷ One head.optional_cast ∷ []) 0 n t at to → lo ≤ at → to ≤ hi
      → Ascend lo hi (expr_tokens (X.type_primary_of inner t))
  type-primary-ordered t at to lo hi f a b =
      let d = f.3 in
      let c = d.3 in
      let g = G.keyword-type f.2 in
      let h = G.type-keyword g.2 in
      type-form _ _ _ _ _ (
        omega arith,
        omega arith,
        append _ _ d.0 (omega arith) (omega arith) (dimensions-ordered (kid 1 t) f.0 d.0 (suc (token 0 (kid 0 (kid 0 t)))) d.0 d.2 (omega arith) (omega arith))
            (optional-cast (kid 2 t) d.0 c.0 d.0 hi c.2 (omega arith) (omega arith)),
      )

  signing-ordered : (t : Tree) (at to lo hi : ℕ) → Facts (One head.signing ∷ One head.cast ∷ []) 0 n t at to → lo ≤ at → to ≤ hi → Ascend lo hi (expr_tokens (X.signing_cast_of inner t))
  signing-ordered t at to lo hi f a b =
      let g = G.signing f.2 in
      let c = f.3 in
      let k = signing-is (kid 0 t) in
      expr-is _ _ _ (E.rolls-SigningCast _ _)
      (omega arith, omega arith, cast-ordered (kid 1 t) f.0 c.0 (suc (signing_token (signing_of (kid 0 t)))) hi c.2 (omega arith) (omega arith))

  pub primary-ordered : Ordered head.primary n expr_tokens (X.primary_of inner)
  primary-ordered t at to lo hi s a b =
      by-test (λ (x : Expr). Ascend lo hi (expr_tokens x)) (row_of t == R.DECIMAL_PRIMARY) _ _ (λ e. decimal-ordered t at to lo hi (G.decimal s e) a b)
      (λ e0.
      by-test (λ (x : Expr). Ascend lo hi (expr_tokens x)) (row_of t == R.BASED_PRIMARY) _ _ (λ e. let f = G.based s e in expr-is _ _ _ (E.rolls-Based _) (omega arith, omega arith, tt))
      (λ e1.
      by-test (λ (x : Expr). Ascend lo hi (expr_tokens x)) (row_of t == R.FILL_PRIMARY) _ _ (λ e. let f = G.fill s e in expr-is _ _ _ (E.rolls-Fill _) (omega arith, omega arith, tt))
      (λ e2.
      by-test (λ (x : Expr). Ascend lo hi (expr_tokens x)) (row_of t == R.PARENTHESIZED_PRIMARY) _ _ (λ e. parenthesized-ordered t at to lo hi (G.parenthesized s e) a b)
      (λ e3.
      by-test (λ (x : Expr). Ascend lo hi (expr_tokens x)) (row_of t == R.BRACED_PRIMARY) _ _
      (λ e. let f = G.braced s e in braced-ordered (token 0 t) (kid 1 t) (suc at) f.2.0 lo hi f.2.2 (omega arith) (omega arith) (omega arith))
      (λ e4.
      by-test (λ (x : Expr). Ascend lo hi (expr_tokens x)) (row_of t == R.PATTERN_PRIMARY) _ _
      (λ e.
      let f = G.pattern s e in
      expr-is _ _ _ (E.rolls-Pattern _ _ _ _) (omega arith, omega arith, pattern-ordered (kid 2 t) (suc (suc at)) f.2.2.0 (suc (token 0 t)) hi f.2.2.2 (omega arith) (omega arith)))
      (λ e5.
      by-test (λ (x : Expr). Ascend lo hi (expr_tokens x)) (row_of t == R.TYPE_PRIMARY) _ _ (λ e. type-primary-ordered t at to lo hi (G.type-primary s e) a b)
      (λ e6.
      by-test (λ (x : Expr). Ascend lo hi (expr_tokens x)) (row_of t == R.SIGNING_PRIMARY) _ _ (λ e. signing-ordered t at to lo hi (G.signing-cast s e) a b)
      (λ e7.
      by-test (λ (x : Expr). Ascend lo hi (expr_tokens x)) (row_of t == R.SYSTEM_PRIMARY) _ _
      (λ e. let f = G.system-call s e in expr-is _ _ _ (E.rolls-SystemCall _ _ _ _) (omega arith, omega arith, in-kid f.2.2.2 (omega arith) (omega arith)))
      (λ e8. name-primary-ordered t at to lo hi (G.name s (e0, (e1, (e2, (e3, (e4, (e5, (e6, (e7, (e8, tt)))))))))) a b)))))))))

  -- operators before an operand
  pub unary-ordered : (operators m : ℕ) → nesting_limit ≤ m + operators → n ≤ m → Ordered head.unary m expr_tokens (unary_within inner operators)
  unfolding unary_within
  unary-ordered zero m d k t at to lo hi s a b =
      decide (row_of t == R.UNARY_OPERATION)
      (λ e. let f = G.operation s e in let l = G.operator-limit f.2 in absurd (omega arith))
      (λ e. let f = G.primary s (e, tt) in primary-ordered (kid 0 t) at f.0 lo hi (spans-lower n k f.2) a (omega arith))
  unary-ordered (suc operators) m d k t at to lo hi s a b =
      by-test (λ (x : Expr). Ascend lo hi (expr_tokens x)) (row_of t == R.UNARY_OPERATION) _ _
      (λ e.
      let f = G.operation s e in
      let o = G.unary-operator f.2 in
      expr-is _ _ _ (E.rolls-Unary _ _ _)
      (omega arith, omega arith, unary-ordered operators (suc m) (omega arith) (omega arith) (kid 1 t) f.0 f.3.0 (suc (token 0 (kid 0 t))) hi f.3.2 (omega arith) (omega arith)))
      (λ e. let f = G.primary s (e, tt) in primary-ordered (kid 0 t) at f.0 lo hi (spans-lower n k f.2) a (omega arith))

-- an operator, and an operand of a head behind it
abbrev Marked : ℕ → ℕ → Tree → ℕ → ℕ → Type 0
Marked below n t at to = (mark (kid 0 t) ≡ at) × Spans below n (suc at) (kid 1 t) to

by-mark : {below n at to : ℕ} (t : Tree) → Facts (Token ∷ One below ∷ []) 0 n t at to → Marked below n t at to
by-mark {below} {n} {at} t f = (f.1, subst (λ m. Spans below n (suc at) (kid 1 t) m) f.2.3 f.2.2)

by-node : {op below n at to : ℕ} (t : Tree) (f : Facts (One op ∷ One below ∷ []) 0 n t at to) → Facts (Token ∷ []) 0 n (kid 0 t) at f.0 → Marked below n t at to
by-node {op} {below} {n} {at} t f o =
    (mark-node (kid 0 t) f.2.is_node ∙ o.0, subst (λ m. Spans below n (suc at) (kid 1 t) m) f.3.3 (subst (λ m. Spans below n m (kid 1 t) f.3.0) (sym o.2) f.3.2))

module _ (n : ℕ) (inner : Tree → Expr) (ok : Ordered head.expression n expr_tokens inner) where
  -- a chain of operators between operands
  module _ (below rest : ℕ) (marked : (t : Tree) (at to : ℕ) → Spans rest n at t to → (row_of t == R.INSIDE) ≡ false → Marked below n t at to) (operand : Tree → Expr)
      (o : Ordered below n expr_tokens operand) where
    joined-ordered : (left : Expr) (t : Tree) (at to lo hi : ℕ) → Ascend lo at (expr_tokens left) → Spans rest n at t to → lo ≤ at → to ≤ hi
        → Ascend lo hi (expr_tokens (X.joined_with inner operand left t))
    joined-ordered left t at to lo hi l s a b =
        by-test (λ (x : Expr). Ascend lo hi (expr_tokens x)) (row_of t == R.INSIDE) _ _
        (λ e.
        let f = G.inside s e in
        let v = f.2.2 in
        expr-is _ _ _ (E.rolls-Inside _ _ _ _ _)
        (append _ _ at (omega arith) (omega arith) l (
          omega arith,
          omega arith,
          L.items-if head.value_range n range_tokens (X.value_range_of inner) (value-range-ordered n inner ok) head.next_value_range (λ x y u r. G.next-value-range r) (kid 2 t) (suc (suc at)) v.0 (suc (token 0 t)) hi
              (λ q. G.value-ranges v.2) (omega arith) (omega arith),
        )))
        (λ e.
        let m = marked t at to s e in
        let r = m.1.rise in
        let p = m.0 in
        expr-is _ _ _ (E.rolls-Binary _ _ _ _)
        (append _ _ at (omega arith) (omega arith) l (omega arith, omega arith, o (kid 1 t) (suc at) to (suc (mark (kid 0 t))) hi m.1 (omega arith) b)))

    chain-ordered : (left : Expr) (ts : List Tree) (at to lo hi : ℕ) → Ascend lo at (expr_tokens left) → AllSpan rest n at ts to → lo ≤ at → to ≤ hi
        → Ascend lo hi (expr_tokens (chain_of inner operand left ts))
    chain-ordered left [] at to lo hi l s a b = ascend-wider (expr_tokens left) lo at lo hi (omega arith) (omega (arith, s)) l
    chain-ordered left (t ∷ ts) at to lo hi l s a b =
        chain-ordered (X.joined_with inner operand left t) ts s.0 to lo hi (joined-ordered left t at s.0 lo s.0 l s.2 a (omega arith)) s.3 (omega arith) b

  -- operators of one more level of precedence
  level-ordered : (h below rest : ℕ) → ((t : Tree) (at to : ℕ) → Spans h n at t to → Facts (One below ∷ Each rest ∷ []) 0 n t at to)
      → ((t : Tree) (at to : ℕ) → Spans rest n at t to → (row_of t == R.INSIDE) ≡ false → Marked below n t at to)
      → (unary : Tree → Expr) (levels : ℕ) → Ordered below n expr_tokens (operation_within inner unary levels) → Ordered h n expr_tokens (operation_within inner unary (suc levels))
  unfolding operation_within
  level-ordered h below rest first marked unary levels o t at to lo hi s a b =
      let f = first t at to s in
      chain-ordered below rest marked (operation_within inner unary levels) o (operation_within inner unary levels (kid 0 t)) (drop 1 (kids_of t)) f.0 to lo hi
      (o (kid 0 t) at f.0 lo f.0 f.2 a (omega arith)) f.3 (omega arith) b

  none-ordered : (unary : Tree → Expr) → Ordered head.unary n expr_tokens unary → Ordered head.unary n expr_tokens (operation_within inner unary 0)
  unfolding operation_within
  none-ordered unary u t at to lo hi s a b = u t at to lo hi s a b

  weaker-ordered : (unary : Tree → Expr) → Ordered head.unary n expr_tokens unary → Ordered head.equality n expr_tokens (operation_within inner unary 6)
  weaker-ordered unary u =
      let power = level-ordered head.power head.unary head.power_rest (λ t x y s. G.power s) (λ t x y s e. by-mark t (G.power-rest s)) unary 0 (none-ordered unary u) in
      let product =
      level-ordered head.product head.power head.product_rest (λ t x y s. G.product s)
      (λ t x y s e. let f = G.product-rest s in by-node t f (G.product-operator f.2)) unary 1 power in
      let sum = level-ordered head.sum head.product head.sum_rest (λ t x y s. G.sum s) (λ t x y s e. let f = G.sum-rest s in by-node t f (G.sum-operator f.2)) unary 2 product in
      let shift = level-ordered head.shift head.sum head.shift_rest (λ t x y s. G.shift s) (λ t x y s e. let f = G.shift-rest s in by-node t f (G.shift-operator f.2)) unary 3 sum in
      let relation =
      level-ordered head.relation head.shift head.relation_rest (λ t x y s. G.relation s)
      (λ t x y s e. let f = G.relation-rest s (e, tt) in by-node t f (G.relation-operator f.2)) unary 4 shift in
      level-ordered head.equality head.relation head.equality_rest (λ t x y s. G.equality s)
      (λ t x y s e. let f = G.equality-rest s in by-node t f (G.equality-operator f.2)) unary 5 relation

  operation-ordered : (unary : Tree → Expr) → Ordered head.unary n expr_tokens unary → Ordered head.logical_or n expr_tokens (operation_within inner unary precedence_levels)
  operation-ordered unary u =
      let by-and =
      level-ordered head.bitwise_and head.equality head.bitwise_and_rest (λ t x y s. G.bitwise-and s) (λ t x y s e. by-mark t (G.bitwise-and-rest s)) unary 6
      (weaker-ordered unary u) in
      let by-xor =
      level-ordered head.bitwise_xor head.bitwise_and head.bitwise_xor_rest (λ t x y s. G.bitwise-xor s)
      (λ t x y s e. let f = G.bitwise-xor-rest s in by-node t f (G.xor-operator f.2)) unary 7 by-and in
      let by-or = level-ordered head.bitwise_or head.bitwise_xor head.bitwise_or_rest (λ t x y s. G.bitwise-or s) (λ t x y s e. by-mark t (G.bitwise-or-rest s)) unary 8 by-xor in
      let all = level-ordered head.logical_and head.bitwise_or head.logical_and_rest (λ t x y s. G.logical-and s) (λ t x y s e. by-mark t (G.logical-and-rest s)) unary 9 by-or in
      level-ordered head.logical_or head.logical_and head.logical_or_rest (λ t x y s. G.logical-or s) (λ t x y s e. by-mark t (G.logical-or-rest s)) unary 10 all

  conditional-ordered : (test : Expr) (rest : Tree) (at to lo hi : ℕ) → Ascend lo at (expr_tokens test) → Spans head.optional_conditional_rest n at rest to → lo ≤ at → to ≤ hi
      → Ascend lo hi (expr_tokens (X.conditional_from inner test rest))
  conditional-ordered test rest at to lo hi l s a b =
      let k = s.rise in
      by-test (λ (x : Expr). Ascend lo hi (expr_tokens x)) (is_blank rest) _ _
      (λ e. ascend-wider (expr_tokens test) lo at lo hi (omega arith) (omega arith) l)
      (λ e.
      let f = G.conditional s e tt in
      let g = f.2.3.2 in
      expr-is _ _ _ (E.rolls-Conditional _ _ _ _ _)
      (append _ _ at (omega arith) (omega arith) l (
        omega arith,
        omega arith,
        append _ _ f.2.0 (omega arith) (omega arith) (in-kid n inner ok f.2.2 (omega arith) (omega arith))
            (omega arith, omega arith, in-kid n inner ok g.2 (omega arith) (omega arith)),
      )))

  pub around-ordered : (t : Tree) (at to lo hi : ℕ) → Facts (One head.logical_or ∷ One head.optional_conditional_rest ∷ []) 0 n t at to → lo ≤ at → to ≤ hi
      → Ascend lo hi (expr_tokens (X.expr_around inner t))
  around-ordered t at to lo hi f a b =
      conditional-ordered (X.operation_of inner (kid 0 t)) (kid 1 t) f.0 f.3.0 lo hi
      (operation-ordered (unary_within inner nesting_limit) (unary-ordered n inner ok nesting_limit n (omega arith) (omega arith)) (kid 0 t) at f.0 lo f.0 f.2 a (omega arith)) f.3.2 (omega arith)
      (omega arith)

-- expressions, however deep
pub within-ordered : (depth n : ℕ) → nesting_limit ≤ n + depth → Ordered head.expression n expr_tokens (expr_within depth)
unfolding expr_within
within-ordered zero n d t at to lo hi s a b = let l = G.expression-limit s in absurd (omega arith)
within-ordered (suc depth) n d t at to lo hi s a b = around-ordered (suc n) (expr_within depth) (within-ordered depth (suc n) (omega arith)) t at to lo hi (G.expression s) a b

pub expr-ordered : (n : ℕ) → Ordered head.expression n expr_tokens expr_of
expr-ordered n = within-ordered nesting_limit n (omega arith)
