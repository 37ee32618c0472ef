-- Each expression of a sound text is sound.
use Rattle.std.proofs.Common.{◌≡◌, Bool, true, false, ◌&&◌, List, [], ◌∷◌, map, Some, None, sym, ◌∙◌, subst}
use Rattle.sv_tree.specs.declared.expressions.Cast.{Cast, Cast-F, fold-Cast, roll-Cast, map-Cast, fold-roll-Cast}
use Rattle.sv_tree.specs.declared.expressions.Dimension.{Dimension, Dimension-F, roll-Dimension, map-Dimension, ind-Dimension, fold-roll-Dimension}
use Rattle.sv_tree.specs.declared.expressions.Expr.{Expr, Expr-F, roll-Expr, map-Expr, ind-Expr, fold-roll-Expr}
use Rattle.sv_tree.specs.declared.expressions.Pattern.{Pattern, Pattern-F, fold-Pattern, roll-Pattern, map-Pattern, fold-roll-Pattern}
use Rattle.sv_tree.specs.declared.expressions.PatternItem.{PatternItem, PatternItem-F, fold-PatternItem, roll-PatternItem, map-PatternItem, fold-roll-PatternItem}
use Rattle.sv_tree.specs.declared.expressions.Select.{Select, Select-F, roll-Select, map-Select, ind-Select, fold-roll-Select}
use Rattle.sv_tree.specs.declared.expressions.SliceSize.{SliceSize, SliceSize-F, roll-SliceSize, map-SliceSize, ind-SliceSize, fold-roll-SliceSize}
use Rattle.sv_tree.specs.declared.expressions.ValueRange.{ValueRange, ValueRange-F, fold-ValueRange, roll-ValueRange, map-ValueRange, fold-roll-ValueRange}
use Rattle.sv_types.specs.declared.statement.Function.{Function}
use Rattle.expr_type.specs.Forms.{SelectMeaning}
use Rattle.expr_type.specs.Expressions as E
use Rattle.expr_type.specs.Expressions.{Meaning, CastMeaning, DimensionMeaning, PatternMeaning, ItemMeaning, SliceMeaning, RangeMeaning, meaning, dimension_meaning, select_meaning, slice_meaning}
use Rattle.typing_fits.proofs.Full.{and-left, and-right}
use Rattle.typing_walks.specs.Keeps.{Anything, SoundInside, SoundParts, SoundItem, SoundRange, SoundMeaning, SoundSelect}
use Rattle.typing_walks.specs.Written as W
use Rattle.typing_walks.specs.Written.{cast_written, dimension_written, is_written, pattern_written, item_written, select_written, slice_written, range_written, all, some_and_all, if_there}
use Rattle.typing_walks.proofs.Paths.{SelectsSound}
use Rattle.typing_walks.proofs.Forms as X
use Rattle.typing_walks.proofs.Forms.{AllMeanings, Gives, AllGive}
use Rattle.typing_walks.proofs.Steps as S
use Rattle.typing_walks.proofs.Steps.{SliceIf}
use Rattle.typing_walks.proofs.Uses as U

-- the other parts of expressions, as they are typed
abbrev pub cast_meaning : Cast → CastMeaning
cast_meaning = fold-Cast CastMeaning DimensionMeaning Meaning PatternMeaning ItemMeaning SelectMeaning SliceMeaning RangeMeaning E.cast_step E.dimension_step E.expr_step E.pattern_step E.pattern_item_step E.select_step E.slice_size_step E.value_range_step

abbrev pub pattern_meaning : Pattern → PatternMeaning
pattern_meaning = fold-Pattern CastMeaning DimensionMeaning Meaning PatternMeaning ItemMeaning SelectMeaning SliceMeaning RangeMeaning E.cast_step E.dimension_step E.expr_step E.pattern_step E.pattern_item_step E.select_step E.slice_size_step E.value_range_step

abbrev pub item_meaning : PatternItem → ItemMeaning
item_meaning = fold-PatternItem CastMeaning DimensionMeaning Meaning PatternMeaning ItemMeaning SelectMeaning SliceMeaning RangeMeaning E.cast_step E.dimension_step E.expr_step E.pattern_step E.pattern_item_step E.select_step E.slice_size_step E.value_range_step

abbrev pub range_meaning : ValueRange → RangeMeaning
range_meaning = fold-ValueRange CastMeaning DimensionMeaning Meaning PatternMeaning ItemMeaning SelectMeaning SliceMeaning RangeMeaning E.cast_step E.dimension_step E.expr_step E.pattern_step E.pattern_item_step E.select_step E.slice_size_step E.value_range_step

module _ (Q : List Function → Type 0) where
  abbrev OfCast : Cast → Type 0
  OfCast x = cast_written x ≡ true → Gives Q SoundInside (cast_meaning x)

  abbrev OfDimension : Dimension → Type 0
  OfDimension x = dimension_written x ≡ true → Gives Q Anything (dimension_meaning x)

  abbrev OfExpr : Expr → Type 0
  OfExpr x = is_written x ≡ true → SoundMeaning Q (meaning x)

  abbrev OfPattern : Pattern → Type 0
  OfPattern x = pattern_written x ≡ true → Gives Q SoundParts (pattern_meaning x)

  abbrev OfItem : PatternItem → Type 0
  OfItem x = item_written x ≡ true → Gives Q SoundItem (item_meaning x)

  abbrev OfSelect : Select → Type 0
  OfSelect x = select_written x ≡ true → SoundSelect Q (select_meaning x)

  abbrev OfSlice : SliceSize → Type 0
  OfSlice x = slice_written x ≡ true → Gives Q Anything (slice_meaning x)

  abbrev OfRange : ValueRange → Type 0
  OfRange x = range_written x ≡ true → Gives Q SoundRange (range_meaning x)

  abbrev ACast : Type 0
  ACast = (x : Cast) × OfCast x

  abbrev ADimension : Type 0
  ADimension = (x : Dimension) × OfDimension x

  abbrev AnExpr : Type 0
  AnExpr = (x : Expr) × OfExpr x

  abbrev APattern : Type 0
  APattern = (x : Pattern) × OfPattern x

  abbrev AnItem : Type 0
  AnItem = (x : PatternItem) × OfItem x

  abbrev ASelect : Type 0
  ASelect = (x : Select) × OfSelect x

  abbrev ASlice : Type 0
  ASlice = (x : SliceSize) × OfSlice x

  abbrev ARange : Type 0
  ARange = (x : ValueRange) × OfRange x

  -- lists and parts that may be left out
  exprs : (ys : List AnExpr) → all (map is_written (map (λ e. e.0) ys)) ≡ true → AllMeanings Q (map meaning (map (λ e. e.0) ys))
  exprs [] w = tt
  exprs (y ∷ ys) w = (y.1 (and-left (is_written y.0) (all (map is_written (map (λ e. e.0) ys))) w), exprs ys (and-right (is_written y.0) (all (map is_written (map (λ e. e.0) ys))) w))

  ranges : (ys : List ARange) → all (map range_written (map (λ e. e.0) ys)) ≡ true → AllGive Q SoundRange (map range_meaning (map (λ e. e.0) ys))
  ranges [] w = tt
  ranges (y ∷ ys) w = (y.1 (and-left (range_written y.0) (all (map range_written (map (λ e. e.0) ys))) w), ranges ys (and-right (range_written y.0) (all (map range_written (map (λ e. e.0) ys))) w))

  dimensions : (ys : List ADimension) → all (map dimension_written (map (λ e. e.0) ys)) ≡ true → AllGive Q Anything (map dimension_meaning (map (λ e. e.0) ys))
  dimensions [] w = tt
  dimensions (y ∷ ys) w = (y.1 (and-left (dimension_written y.0) (all (map dimension_written (map (λ e. e.0) ys))) w), dimensions ys (and-right (dimension_written y.0) (all (map dimension_written (map (λ e. e.0) ys))) w))

  items : (ys : List AnItem) → all (map item_written (map (λ e. e.0) ys)) ≡ true → AllGive Q SoundItem (map item_meaning (map (λ e. e.0) ys))
  items [] w = tt
  items (y ∷ ys) w = (y.1 (and-left (item_written y.0) (all (map item_written (map (λ e. e.0) ys))) w), items ys (and-right (item_written y.0) (all (map item_written (map (λ e. e.0) ys))) w))

  selects : (ys : List ASelect) → all (map select_written (map (λ e. e.0) ys)) ≡ true → SelectsSound Q (map select_meaning (map (λ e. e.0) ys))
  selects [] w = tt
  selects (y ∷ ys) w = (y.1 (and-left (select_written y.0) (all (map select_written (map (λ e. e.0) ys))) w), selects ys (and-right (select_written y.0) (all (map select_written (map (λ e. e.0) ys))) w))

  -- a form over what is written, and what it means
  abbrev expr_in : Expr-F ACast ADimension AnExpr APattern AnItem ASelect ASlice ARange → Expr-F Cast Dimension Expr Pattern PatternItem Select SliceSize ValueRange
  expr_in = map-Expr ACast ADimension AnExpr APattern AnItem ASelect ASlice ARange Cast Dimension Expr Pattern PatternItem Select SliceSize ValueRange (λ e. e.0) (λ e. e.0) (λ e. e.0) (λ e. e.0) (λ e. e.0) (λ e. e.0) (λ e. e.0) (λ e. e.0)

  abbrev written_expr : Expr-F Cast Dimension Expr Pattern PatternItem Select SliceSize ValueRange → Bool
  written_expr z = W.expr_step (map-Expr Cast Dimension Expr Pattern PatternItem Select SliceSize ValueRange Bool Bool Bool Bool Bool Bool Bool Bool cast_written dimension_written is_written pattern_written item_written select_written slice_written range_written z)

  abbrev meant_expr : Expr-F Cast Dimension Expr Pattern PatternItem Select SliceSize ValueRange → Meaning
  meant_expr z = E.expr_step (map-Expr Cast Dimension Expr Pattern PatternItem Select SliceSize ValueRange CastMeaning DimensionMeaning Meaning PatternMeaning ItemMeaning SelectMeaning SliceMeaning RangeMeaning cast_meaning dimension_meaning meaning pattern_meaning item_meaning select_meaning slice_meaning range_meaning z)

  expr-case : (y : Expr-F ACast ADimension AnExpr APattern AnItem ASelect ASlice ARange) → written_expr (expr_in y) ≡ true → SoundMeaning Q (meant_expr (expr_in y))
  expr-case (Expr-F.Conditional test question first colon second) w =
      let rest = and-right (is_written test.0) (is_written first.0 && is_written second.0) w in
      X.conditional-form Q (meaning test.0) question (meaning first.0) colon (meaning second.0) (test.1 (and-left (is_written test.0) (is_written first.0 && is_written second.0) w))
      (first.1 (and-left (is_written first.0) (is_written second.0) rest)) (second.1 (and-right (is_written first.0) (is_written second.0) rest))
  expr-case (Expr-F.Binary left op at right) w =
      X.binary-form Q (meaning left.0) op at (meaning right.0) (left.1 (and-left (is_written left.0) (is_written right.0) w)) (right.1 (and-right (is_written left.0) (is_written right.0) w))
  expr-case (Expr-F.Inside sought keyword opening rs closing) w =
      X.inside-form Q (meaning sought.0) keyword opening (map range_meaning (map (λ e. e.0) rs)) closing (sought.1 (and-left (is_written sought.0) (all (map range_written (map (λ e. e.0) rs))) w))
      (ranges rs (and-right (is_written sought.0) (all (map range_written (map (λ e. e.0) rs))) w))
  expr-case (Expr-F.Unary op at operand) w = X.unary-form Q op at (meaning operand.0) (operand.1 w)
  expr-case (Expr-F.«Expr::Decimal» digits) w = X.decimal-form Q digits
  expr-case (Expr-F.Sized size digits) w = X.sized-form Q size digits
  expr-case (Expr-F.SizeCast size cast) w = X.written-form Q size (cast_meaning cast.0) (cast.1 w)
  expr-case (Expr-F.Based digits) w = X.based-form Q digits
  expr-case (Expr-F.Fill digit) w = X.fill-form Q digit
  expr-case (Expr-F.«Expr::Parenthesized» opening inner closing None) w = X.parenthesized-form Q opening (meaning inner.0) closing (inner.1 (and-left (is_written inner.0) true w))
  expr-case (Expr-F.«Expr::Parenthesized» opening inner closing (Some cast)) w =
      X.parenthesized-cast Q opening (meaning inner.0) closing (cast_meaning cast.0) (inner.1 (and-left (is_written inner.0) (cast_written cast.0) w)) (cast.1 (and-right (is_written inner.0) (cast_written cast.0) w))
  expr-case (Expr-F.«Expr::Replication» opening times inner [] inner_closing closing) w = absurd (let e = and-right (is_written times.0) false w in cc)
  expr-case (Expr-F.«Expr::Replication» opening times inner (y ∷ ys) inner_closing closing) w =
      let rest = is_written y.0 && all (map is_written (map (λ e. e.0) ys)) in
      S.replication-form Q opening (meaning times.0) inner (meaning y.0) (map meaning (map (λ e. e.0) ys)) inner_closing closing (times.1 (and-left (is_written times.0) rest w)) (exprs (y ∷ ys) (and-right (is_written times.0) rest w))
  expr-case (Expr-F.Concatenation opening [] closing) w = absurd (cc)
  expr-case (Expr-F.Concatenation opening (y ∷ ys) closing) w = S.concatenation-form Q opening (meaning y.0) (map meaning (map (λ e. e.0) ys)) closing (exprs (y ∷ ys) w)
  expr-case (Expr-F.Stream opening op at size inner [] inner_closing closing) w = absurd (let e = and-right _ false w in cc)
  expr-case (Expr-F.Stream opening op at None inner (y ∷ ys) inner_closing closing) w =
      S.stream-form Q opening op at None inner (meaning y.0) (map meaning (map (λ e. e.0) ys)) inner_closing closing tt (exprs (y ∷ ys) w)
  expr-case (Expr-F.Stream opening op at (Some size) inner (y ∷ ys) inner_closing closing) w =
      let rest = is_written y.0 && all (map is_written (map (λ e. e.0) ys)) in
      S.stream-form Q opening op at (Some (slice_meaning size.0)) inner (meaning y.0) (map meaning (map (λ e. e.0) ys)) inner_closing closing (size.1 (and-left (slice_written size.0) rest w)) (exprs (y ∷ ys) (and-right (slice_written size.0) rest w))
  expr-case (Expr-F.«Expr::Pattern» tick opening pattern closing) w = S.pattern-form Q tick opening (pattern_meaning pattern.0) closing (pattern.1 w)
  expr-case (Expr-F.Type of ds None) w = X.type-form Q of (map dimension_meaning (map (λ e. e.0) ds)) (dimensions ds (and-left (all (map dimension_written (map (λ e. e.0) ds))) true w))
  expr-case (Expr-F.Type of ds (Some cast)) w =
      let these = all (map dimension_written (map (λ e. e.0) ds)) in
      X.type-cast Q of (map dimension_meaning (map (λ e. e.0) ds)) (cast_meaning cast.0) (dimensions ds (and-left these (cast_written cast.0) w)) (cast.1 (and-right these (cast_written cast.0) w))
  expr-case (Expr-F.SigningCast signing cast) w = X.signing-form Q signing (cast_meaning cast.0) (cast.1 w)
  expr-case (Expr-F.SystemCall name opening argument closing) w = X.system-form Q name opening (meaning argument.0) closing (argument.1 w)
  expr-case (Expr-F.Call of opening arguments closing None) w =
      U.call-form Q of opening (map meaning (map (λ e. e.0) arguments)) closing (exprs arguments (and-left (all (map is_written (map (λ e. e.0) arguments))) true w))
  expr-case (Expr-F.Call of opening arguments closing (Some cast)) w =
      let these = all (map is_written (map (λ e. e.0) arguments)) in
      U.call-cast Q of opening (map meaning (map (λ e. e.0) arguments)) closing (cast_meaning cast.0) (exprs arguments (and-left these (cast_written cast.0) w)) (cast.1 (and-right these (cast_written cast.0) w))
  expr-case (Expr-F.«Expr::Name» of ss None) w = U.name-form Q of (map select_meaning (map (λ e. e.0) ss)) (selects ss (and-left (all (map select_written (map (λ e. e.0) ss))) true w))
  expr-case (Expr-F.«Expr::Name» of ss (Some cast)) w =
      let these = all (map select_written (map (λ e. e.0) ss)) in
      U.name-cast Q of (map select_meaning (map (λ e. e.0) ss)) (cast_meaning cast.0) (selects ss (and-left these (cast_written cast.0) w)) (cast.1 (and-right these (cast_written cast.0) w))

  expr-level : (y : Expr-F ACast ADimension AnExpr APattern AnItem ASelect ASlice ARange) → OfExpr (roll-Expr (expr_in y))
  expr-level y w =
      subst (λ m. SoundMeaning Q m) (sym (fold-roll-Expr CastMeaning DimensionMeaning Meaning PatternMeaning ItemMeaning SelectMeaning SliceMeaning RangeMeaning E.cast_step E.dimension_step E.expr_step E.pattern_step E.pattern_item_step E.select_step E.slice_size_step E.value_range_step (expr_in y)))
      (expr-case y (sym (fold-roll-Expr Bool Bool Bool Bool Bool Bool Bool Bool W.cast_step W.dimension_step W.expr_step W.pattern_step W.item_step W.select_step W.slice_step W.range_step (expr_in y)) ∙ w))

  abbrev cast_in : Cast-F ACast ADimension AnExpr APattern AnItem ASelect ASlice ARange → Cast-F Cast Dimension Expr Pattern PatternItem Select SliceSize ValueRange
  cast_in = map-Cast ACast ADimension AnExpr APattern AnItem ASelect ASlice ARange Cast Dimension Expr Pattern PatternItem Select SliceSize ValueRange (λ e. e.0) (λ e. e.0) (λ e. e.0) (λ e. e.0) (λ e. e.0) (λ e. e.0) (λ e. e.0) (λ e. e.0)

  abbrev written_cast : Cast-F Cast Dimension Expr Pattern PatternItem Select SliceSize ValueRange → Bool
  written_cast z = W.cast_step (map-Cast Cast Dimension Expr Pattern PatternItem Select SliceSize ValueRange Bool Bool Bool Bool Bool Bool Bool Bool cast_written dimension_written is_written pattern_written item_written select_written slice_written range_written z)

  abbrev meant_cast : Cast-F Cast Dimension Expr Pattern PatternItem Select SliceSize ValueRange → CastMeaning
  meant_cast z = E.cast_step (map-Cast Cast Dimension Expr Pattern PatternItem Select SliceSize ValueRange CastMeaning DimensionMeaning Meaning PatternMeaning ItemMeaning SelectMeaning SliceMeaning RangeMeaning cast_meaning dimension_meaning meaning pattern_meaning item_meaning select_meaning slice_meaning range_meaning z)

  cast-case : (y : Cast-F ACast ADimension AnExpr APattern AnItem ASelect ASlice ARange) → written_cast (cast_in y) ≡ true → Gives Q SoundInside (meant_cast (cast_in y))
  cast-case (Cast-F.«Cast::Value» tick opening value closing) w = S.value-cast Q tick opening (meaning value.0) closing (value.1 w)
  cast-case (Cast-F.«Cast::Pattern» tick opening pattern closing) w = S.pattern-cast Q tick opening (pattern_meaning pattern.0) closing (pattern.1 w)

  cast-level : (y : Cast-F ACast ADimension AnExpr APattern AnItem ASelect ASlice ARange) → OfCast (roll-Cast (cast_in y))
  cast-level y w =
      subst (λ m. Gives Q SoundInside m) (sym (fold-roll-Cast CastMeaning DimensionMeaning Meaning PatternMeaning ItemMeaning SelectMeaning SliceMeaning RangeMeaning E.cast_step E.dimension_step E.expr_step E.pattern_step E.pattern_item_step E.select_step E.slice_size_step E.value_range_step (cast_in y)))
      (cast-case y (sym (fold-roll-Cast Bool Bool Bool Bool Bool Bool Bool Bool W.cast_step W.dimension_step W.expr_step W.pattern_step W.item_step W.select_step W.slice_step W.range_step (cast_in y)) ∙ w))

  abbrev dimension_in : Dimension-F ACast ADimension AnExpr APattern AnItem ASelect ASlice ARange → Dimension-F Cast Dimension Expr Pattern PatternItem Select SliceSize ValueRange
  dimension_in = map-Dimension ACast ADimension AnExpr APattern AnItem ASelect ASlice ARange Cast Dimension Expr Pattern PatternItem Select SliceSize ValueRange (λ e. e.0) (λ e. e.0) (λ e. e.0) (λ e. e.0) (λ e. e.0) (λ e. e.0) (λ e. e.0) (λ e. e.0)

  abbrev written_dimension : Dimension-F Cast Dimension Expr Pattern PatternItem Select SliceSize ValueRange → Bool
  written_dimension z = W.dimension_step (map-Dimension Cast Dimension Expr Pattern PatternItem Select SliceSize ValueRange Bool Bool Bool Bool Bool Bool Bool Bool cast_written dimension_written is_written pattern_written item_written select_written slice_written range_written z)

  abbrev meant_dimension : Dimension-F Cast Dimension Expr Pattern PatternItem Select SliceSize ValueRange → DimensionMeaning
  meant_dimension z = E.dimension_step (map-Dimension Cast Dimension Expr Pattern PatternItem Select SliceSize ValueRange CastMeaning DimensionMeaning Meaning PatternMeaning ItemMeaning SelectMeaning SliceMeaning RangeMeaning cast_meaning dimension_meaning meaning pattern_meaning item_meaning select_meaning slice_meaning range_meaning z)

  dimension-case : (y : Dimension-F ACast ADimension AnExpr APattern AnItem ASelect ASlice ARange) → written_dimension (dimension_in y) ≡ true → Gives Q Anything (meant_dimension (dimension_in y))
  dimension-case (Dimension-F.Size opening size closing) w = S.size-step Q opening (meaning size.0) closing (size.1 w)
  dimension-case (Dimension-F.«Dimension::Range» opening left colon right closing) w =
      S.range-dimension Q opening (meaning left.0) colon (meaning right.0) closing (left.1 (and-left (is_written left.0) (is_written right.0) w)) (right.1 (and-right (is_written left.0) (is_written right.0) w))

  dimension-level : (y : Dimension-F ACast ADimension AnExpr APattern AnItem ASelect ASlice ARange) → OfDimension (roll-Dimension (dimension_in y))
  dimension-level y w =
      subst (λ m. Gives Q Anything m) (sym (fold-roll-Dimension CastMeaning DimensionMeaning Meaning PatternMeaning ItemMeaning SelectMeaning SliceMeaning RangeMeaning E.cast_step E.dimension_step E.expr_step E.pattern_step E.pattern_item_step E.select_step E.slice_size_step E.value_range_step (dimension_in y)))
      (dimension-case y (sym (fold-roll-Dimension Bool Bool Bool Bool Bool Bool Bool Bool W.cast_step W.dimension_step W.expr_step W.pattern_step W.item_step W.select_step W.slice_step W.range_step (dimension_in y)) ∙ w))

  abbrev pattern_in : Pattern-F ACast ADimension AnExpr APattern AnItem ASelect ASlice ARange → Pattern-F Cast Dimension Expr Pattern PatternItem Select SliceSize ValueRange
  pattern_in = map-Pattern ACast ADimension AnExpr APattern AnItem ASelect ASlice ARange Cast Dimension Expr Pattern PatternItem Select SliceSize ValueRange (λ e. e.0) (λ e. e.0) (λ e. e.0) (λ e. e.0) (λ e. e.0) (λ e. e.0) (λ e. e.0) (λ e. e.0)

  abbrev written_pattern : Pattern-F Cast Dimension Expr Pattern PatternItem Select SliceSize ValueRange → Bool
  written_pattern z = W.pattern_step (map-Pattern Cast Dimension Expr Pattern PatternItem Select SliceSize ValueRange Bool Bool Bool Bool Bool Bool Bool Bool cast_written dimension_written is_written pattern_written item_written select_written slice_written range_written z)

  abbrev meant_pattern : Pattern-F Cast Dimension Expr Pattern PatternItem Select SliceSize ValueRange → PatternMeaning
  meant_pattern z = E.pattern_step (map-Pattern Cast Dimension Expr Pattern PatternItem Select SliceSize ValueRange CastMeaning DimensionMeaning Meaning PatternMeaning ItemMeaning SelectMeaning SliceMeaning RangeMeaning cast_meaning dimension_meaning meaning pattern_meaning item_meaning select_meaning slice_meaning range_meaning z)

  pattern-case : (y : Pattern-F ACast ADimension AnExpr APattern AnItem ASelect ASlice ARange) → written_pattern (pattern_in y) ≡ true → Gives Q SoundParts (meant_pattern (pattern_in y))
  pattern-case (Pattern-F.Items is) w = S.items-step Q (map item_meaning (map (λ e. e.0) is)) (items is w)
  pattern-case (Pattern-F.«Pattern::Replication» times opening es closing) w =
      let these = all (map is_written (map (λ e. e.0) es)) in
      S.repeated-step Q (meaning times.0) opening (map meaning (map (λ e. e.0) es)) closing (times.1 (and-left (is_written times.0) these w)) (exprs es (and-right (is_written times.0) these w))

  pattern-level : (y : Pattern-F ACast ADimension AnExpr APattern AnItem ASelect ASlice ARange) → OfPattern (roll-Pattern (pattern_in y))
  pattern-level y w =
      subst (λ m. Gives Q SoundParts m) (sym (fold-roll-Pattern CastMeaning DimensionMeaning Meaning PatternMeaning ItemMeaning SelectMeaning SliceMeaning RangeMeaning E.cast_step E.dimension_step E.expr_step E.pattern_step E.pattern_item_step E.select_step E.slice_size_step E.value_range_step (pattern_in y)))
      (pattern-case y (sym (fold-roll-Pattern Bool Bool Bool Bool Bool Bool Bool Bool W.cast_step W.dimension_step W.expr_step W.pattern_step W.item_step W.select_step W.slice_step W.range_step (pattern_in y)) ∙ w))

  abbrev item_in : PatternItem-F ACast ADimension AnExpr APattern AnItem ASelect ASlice ARange → PatternItem-F Cast Dimension Expr Pattern PatternItem Select SliceSize ValueRange
  item_in = map-PatternItem ACast ADimension AnExpr APattern AnItem ASelect ASlice ARange Cast Dimension Expr Pattern PatternItem Select SliceSize ValueRange (λ e. e.0) (λ e. e.0) (λ e. e.0) (λ e. e.0) (λ e. e.0) (λ e. e.0) (λ e. e.0) (λ e. e.0)

  abbrev written_item : PatternItem-F Cast Dimension Expr Pattern PatternItem Select SliceSize ValueRange → Bool
  written_item z = W.item_step (map-PatternItem Cast Dimension Expr Pattern PatternItem Select SliceSize ValueRange Bool Bool Bool Bool Bool Bool Bool Bool cast_written dimension_written is_written pattern_written item_written select_written slice_written range_written z)

  abbrev meant_item : PatternItem-F Cast Dimension Expr Pattern PatternItem Select SliceSize ValueRange → ItemMeaning
  meant_item z = E.pattern_item_step (map-PatternItem Cast Dimension Expr Pattern PatternItem Select SliceSize ValueRange CastMeaning DimensionMeaning Meaning PatternMeaning ItemMeaning SelectMeaning SliceMeaning RangeMeaning cast_meaning dimension_meaning meaning pattern_meaning item_meaning select_meaning slice_meaning range_meaning z)

  item-case : (y : PatternItem-F ACast ADimension AnExpr APattern AnItem ASelect ASlice ARange) → written_item (item_in y) ≡ true → Gives Q SoundItem (meant_item (item_in y))
  item-case (PatternItem-F.Default keyword colon item) w = S.default-step Q keyword colon (meaning item.0) (item.1 w)
  item-case (PatternItem-F.Keyed key colon item) w =
      S.keyed-step Q (meaning key.0) colon (meaning item.0) (key.1 (and-left (is_written key.0) (is_written item.0) w)) (item.1 (and-right (is_written key.0) (is_written item.0) w))
  item-case (PatternItem-F.«PatternItem::Value» item) w = S.place-step Q (meaning item.0) (item.1 w)

  item-level : (y : PatternItem-F ACast ADimension AnExpr APattern AnItem ASelect ASlice ARange) → OfItem (roll-PatternItem (item_in y))
  item-level y w =
      subst (λ m. Gives Q SoundItem m) (sym (fold-roll-PatternItem CastMeaning DimensionMeaning Meaning PatternMeaning ItemMeaning SelectMeaning SliceMeaning RangeMeaning E.cast_step E.dimension_step E.expr_step E.pattern_step E.pattern_item_step E.select_step E.slice_size_step E.value_range_step (item_in y)))
      (item-case y (sym (fold-roll-PatternItem Bool Bool Bool Bool Bool Bool Bool Bool W.cast_step W.dimension_step W.expr_step W.pattern_step W.item_step W.select_step W.slice_step W.range_step (item_in y)) ∙ w))

  abbrev select_in : Select-F ACast ADimension AnExpr APattern AnItem ASelect ASlice ARange → Select-F Cast Dimension Expr Pattern PatternItem Select SliceSize ValueRange
  select_in = map-Select ACast ADimension AnExpr APattern AnItem ASelect ASlice ARange Cast Dimension Expr Pattern PatternItem Select SliceSize ValueRange (λ e. e.0) (λ e. e.0) (λ e. e.0) (λ e. e.0) (λ e. e.0) (λ e. e.0) (λ e. e.0) (λ e. e.0)

  abbrev written_select : Select-F Cast Dimension Expr Pattern PatternItem Select SliceSize ValueRange → Bool
  written_select z = W.select_step (map-Select Cast Dimension Expr Pattern PatternItem Select SliceSize ValueRange Bool Bool Bool Bool Bool Bool Bool Bool cast_written dimension_written is_written pattern_written item_written select_written slice_written range_written z)

  abbrev meant_select : Select-F Cast Dimension Expr Pattern PatternItem Select SliceSize ValueRange → SelectMeaning
  meant_select z = E.select_step (map-Select Cast Dimension Expr Pattern PatternItem Select SliceSize ValueRange CastMeaning DimensionMeaning Meaning PatternMeaning ItemMeaning SelectMeaning SliceMeaning RangeMeaning cast_meaning dimension_meaning meaning pattern_meaning item_meaning select_meaning slice_meaning range_meaning z)

  select-case : (y : Select-F ACast ADimension AnExpr APattern AnItem ASelect ASlice ARange) → written_select (select_in y) ≡ true → SoundSelect Q (meant_select (select_in y))
  select-case (Select-F.Member dot name) w = S.member-select Q dot name
  select-case (Select-F.Index opening index closing) w = S.index-select Q opening (meaning index.0) closing (index.1 w)
  select-case (Select-F.Part opening left op at right closing) w =
      S.part-select Q opening (meaning left.0) op at (meaning right.0) closing (left.1 (and-left (is_written left.0) (is_written right.0) w)) (right.1 (and-right (is_written left.0) (is_written right.0) w))

  select-level : (y : Select-F ACast ADimension AnExpr APattern AnItem ASelect ASlice ARange) → OfSelect (roll-Select (select_in y))
  select-level y w =
      subst (λ m. SoundSelect Q m) (sym (fold-roll-Select CastMeaning DimensionMeaning Meaning PatternMeaning ItemMeaning SelectMeaning SliceMeaning RangeMeaning E.cast_step E.dimension_step E.expr_step E.pattern_step E.pattern_item_step E.select_step E.slice_size_step E.value_range_step (select_in y)))
      (select-case y (sym (fold-roll-Select Bool Bool Bool Bool Bool Bool Bool Bool W.cast_step W.dimension_step W.expr_step W.pattern_step W.item_step W.select_step W.slice_step W.range_step (select_in y)) ∙ w))

  abbrev slice_in : SliceSize-F ACast ADimension AnExpr APattern AnItem ASelect ASlice ARange → SliceSize-F Cast Dimension Expr Pattern PatternItem Select SliceSize ValueRange
  slice_in = map-SliceSize ACast ADimension AnExpr APattern AnItem ASelect ASlice ARange Cast Dimension Expr Pattern PatternItem Select SliceSize ValueRange (λ e. e.0) (λ e. e.0) (λ e. e.0) (λ e. e.0) (λ e. e.0) (λ e. e.0) (λ e. e.0) (λ e. e.0)

  abbrev written_slice : SliceSize-F Cast Dimension Expr Pattern PatternItem Select SliceSize ValueRange → Bool
  written_slice z = W.slice_step (map-SliceSize Cast Dimension Expr Pattern PatternItem Select SliceSize ValueRange Bool Bool Bool Bool Bool Bool Bool Bool cast_written dimension_written is_written pattern_written item_written select_written slice_written range_written z)

  abbrev meant_slice : SliceSize-F Cast Dimension Expr Pattern PatternItem Select SliceSize ValueRange → SliceMeaning
  meant_slice z = E.slice_size_step (map-SliceSize Cast Dimension Expr Pattern PatternItem Select SliceSize ValueRange CastMeaning DimensionMeaning Meaning PatternMeaning ItemMeaning SelectMeaning SliceMeaning RangeMeaning cast_meaning dimension_meaning meaning pattern_meaning item_meaning select_meaning slice_meaning range_meaning z)

  slice-case : (y : SliceSize-F ACast ADimension AnExpr APattern AnItem ASelect ASlice ARange) → written_slice (slice_in y) ≡ true → Gives Q Anything (meant_slice (slice_in y))
  slice-case (SliceSize-F.«SliceSize::Decimal» digits) w = S.decimal-slice Q digits
  slice-case (SliceSize-F.Keyword of) w = S.keyword-slice Q of
  slice-case (SliceSize-F.«SliceSize::Name» of) w = S.name-slice Q of
  slice-case (SliceSize-F.«SliceSize::Parenthesized» opening size closing) w = S.value-slice Q opening (meaning size.0) closing (size.1 w)

  slice-level : (y : SliceSize-F ACast ADimension AnExpr APattern AnItem ASelect ASlice ARange) → OfSlice (roll-SliceSize (slice_in y))
  slice-level y w =
      subst (λ m. Gives Q Anything m) (sym (fold-roll-SliceSize CastMeaning DimensionMeaning Meaning PatternMeaning ItemMeaning SelectMeaning SliceMeaning RangeMeaning E.cast_step E.dimension_step E.expr_step E.pattern_step E.pattern_item_step E.select_step E.slice_size_step E.value_range_step (slice_in y)))
      (slice-case y (sym (fold-roll-SliceSize Bool Bool Bool Bool Bool Bool Bool Bool W.cast_step W.dimension_step W.expr_step W.pattern_step W.item_step W.select_step W.slice_step W.range_step (slice_in y)) ∙ w))

  abbrev range_in : ValueRange-F ACast ADimension AnExpr APattern AnItem ASelect ASlice ARange → ValueRange-F Cast Dimension Expr Pattern PatternItem Select SliceSize ValueRange
  range_in = map-ValueRange ACast ADimension AnExpr APattern AnItem ASelect ASlice ARange Cast Dimension Expr Pattern PatternItem Select SliceSize ValueRange (λ e. e.0) (λ e. e.0) (λ e. e.0) (λ e. e.0) (λ e. e.0) (λ e. e.0) (λ e. e.0) (λ e. e.0)

  abbrev written_range : ValueRange-F Cast Dimension Expr Pattern PatternItem Select SliceSize ValueRange → Bool
  written_range z = W.range_step (map-ValueRange Cast Dimension Expr Pattern PatternItem Select SliceSize ValueRange Bool Bool Bool Bool Bool Bool Bool Bool cast_written dimension_written is_written pattern_written item_written select_written slice_written range_written z)

  abbrev meant_range : ValueRange-F Cast Dimension Expr Pattern PatternItem Select SliceSize ValueRange → RangeMeaning
  meant_range z = E.value_range_step (map-ValueRange Cast Dimension Expr Pattern PatternItem Select SliceSize ValueRange CastMeaning DimensionMeaning Meaning PatternMeaning ItemMeaning SelectMeaning SliceMeaning RangeMeaning cast_meaning dimension_meaning meaning pattern_meaning item_meaning select_meaning slice_meaning range_meaning z)

  range-case : (y : ValueRange-F ACast ADimension AnExpr APattern AnItem ASelect ASlice ARange) → written_range (range_in y) ≡ true → Gives Q SoundRange (meant_range (range_in y))
  range-case (ValueRange-F.«ValueRange::Value» v) w = S.value-range Q (meaning v.0) (v.1 w)
  range-case (ValueRange-F.«ValueRange::Range» opening low colon high closing) w =
      S.both-range Q opening (meaning low.0) colon (meaning high.0) closing (low.1 (and-left (is_written low.0) (is_written high.0) w)) (high.1 (and-right (is_written low.0) (is_written high.0) w))

  range-level : (y : ValueRange-F ACast ADimension AnExpr APattern AnItem ASelect ASlice ARange) → OfRange (roll-ValueRange (range_in y))
  range-level y w =
      subst (λ m. Gives Q SoundRange m) (sym (fold-roll-ValueRange CastMeaning DimensionMeaning Meaning PatternMeaning ItemMeaning SelectMeaning SliceMeaning RangeMeaning E.cast_step E.dimension_step E.expr_step E.pattern_step E.pattern_item_step E.select_step E.slice_size_step E.value_range_step (range_in y)))
      (range-case y (sym (fold-roll-ValueRange Bool Bool Bool Bool Bool Bool Bool Bool W.cast_step W.dimension_step W.expr_step W.pattern_step W.item_step W.select_step W.slice_step W.range_step (range_in y)) ∙ w))

  pub expr-sound : (x : Expr) → is_written x ≡ true → SoundMeaning Q (meaning x)
  expr-sound =
      ind-Expr OfCast OfDimension OfExpr OfPattern OfItem OfSelect OfSlice OfRange
      (λ x y is. subst (λ z. OfCast (roll-Cast z)) is (cast-level y))
      (λ x y is. subst (λ z. OfDimension (roll-Dimension z)) is (dimension-level y))
      (λ x y is. subst (λ z. OfExpr (roll-Expr z)) is (expr-level y))
      (λ x y is. subst (λ z. OfPattern (roll-Pattern z)) is (pattern-level y))
      (λ x y is. subst (λ z. OfItem (roll-PatternItem z)) is (item-level y))
      (λ x y is. subst (λ z. OfSelect (roll-Select z)) is (select-level y))
      (λ x y is. subst (λ z. OfSlice (roll-SliceSize z)) is (slice-level y))
      (λ x y is. subst (λ z. OfRange (roll-ValueRange z)) is (range-level y))

  pub select-sound : (x : Select) → select_written x ≡ true → SoundSelect Q (select_meaning x)
  select-sound =
      ind-Select OfCast OfDimension OfExpr OfPattern OfItem OfSelect OfSlice OfRange
      (λ x y is. subst (λ z. OfCast (roll-Cast z)) is (cast-level y))
      (λ x y is. subst (λ z. OfDimension (roll-Dimension z)) is (dimension-level y))
      (λ x y is. subst (λ z. OfExpr (roll-Expr z)) is (expr-level y))
      (λ x y is. subst (λ z. OfPattern (roll-Pattern z)) is (pattern-level y))
      (λ x y is. subst (λ z. OfItem (roll-PatternItem z)) is (item-level y))
      (λ x y is. subst (λ z. OfSelect (roll-Select z)) is (select-level y))
      (λ x y is. subst (λ z. OfSlice (roll-SliceSize z)) is (slice-level y))
      (λ x y is. subst (λ z. OfRange (roll-ValueRange z)) is (range-level y))

  pub slice-sound : (x : SliceSize) → slice_written x ≡ true → Gives Q Anything (slice_meaning x)
  slice-sound =
      ind-SliceSize OfCast OfDimension OfExpr OfPattern OfItem OfSelect OfSlice OfRange
      (λ x y is. subst (λ z. OfCast (roll-Cast z)) is (cast-level y))
      (λ x y is. subst (λ z. OfDimension (roll-Dimension z)) is (dimension-level y))
      (λ x y is. subst (λ z. OfExpr (roll-Expr z)) is (expr-level y))
      (λ x y is. subst (λ z. OfPattern (roll-Pattern z)) is (pattern-level y))
      (λ x y is. subst (λ z. OfItem (roll-PatternItem z)) is (item-level y))
      (λ x y is. subst (λ z. OfSelect (roll-Select z)) is (select-level y))
      (λ x y is. subst (λ z. OfSlice (roll-SliceSize z)) is (slice-level y))
      (λ x y is. subst (λ z. OfRange (roll-ValueRange z)) is (range-level y))

  pub dimension-sound : (x : Dimension) → dimension_written x ≡ true → Gives Q Anything (dimension_meaning x)
  dimension-sound =
      ind-Dimension OfCast OfDimension OfExpr OfPattern OfItem OfSelect OfSlice OfRange
      (λ x y is. subst (λ z. OfCast (roll-Cast z)) is (cast-level y))
      (λ x y is. subst (λ z. OfDimension (roll-Dimension z)) is (dimension-level y))
      (λ x y is. subst (λ z. OfExpr (roll-Expr z)) is (expr-level y))
      (λ x y is. subst (λ z. OfPattern (roll-Pattern z)) is (pattern-level y))
      (λ x y is. subst (λ z. OfItem (roll-PatternItem z)) is (item-level y))
      (λ x y is. subst (λ z. OfSelect (roll-Select z)) is (select-level y))
      (λ x y is. subst (λ z. OfSlice (roll-SliceSize z)) is (slice-level y))
      (λ x y is. subst (λ z. OfRange (roll-ValueRange z)) is (range-level y))
