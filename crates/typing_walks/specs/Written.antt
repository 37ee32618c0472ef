-- Expressions in which each concatenation, replication and stream has a part, as those that are read from a text.
use Rattle.std.specs.Prelude.{Bool, true, false, ◌&&◌, List, [], ◌∷◌, Option, Some, None}
use Rattle.sv_tree.specs.declared.expressions.Cast.{Cast, Cast-F, fold-Cast}
use Rattle.sv_tree.specs.declared.expressions.Dimension.{Dimension, Dimension-F, fold-Dimension}
use Rattle.sv_tree.specs.declared.expressions.Expr.{Expr, Expr-F, fold-Expr}
use Rattle.sv_tree.specs.declared.expressions.Pattern.{Pattern, Pattern-F, fold-Pattern}
use Rattle.sv_tree.specs.declared.expressions.PatternItem.{PatternItem, PatternItem-F, fold-PatternItem}
use Rattle.sv_tree.specs.declared.expressions.Select.{Select, Select-F, fold-Select}
use Rattle.sv_tree.specs.declared.expressions.SliceSize.{SliceSize, SliceSize-F, fold-SliceSize}
use Rattle.sv_tree.specs.declared.expressions.ValueRange.{ValueRange, ValueRange-F, fold-ValueRange}

abbrev pub all : List Bool → Bool
all [] = true
all (b ∷ bs) = b && all bs

abbrev pub some_and_all : List Bool → Bool
some_and_all [] = false
some_and_all (b ∷ bs) = b && all bs

abbrev pub if_there : Option Bool → Bool
if_there None = true
if_there (Some b) = b

abbrev pub cast_step : Cast-F Bool Bool Bool Bool Bool Bool Bool Bool → Bool
cast_step (Cast-F.«Cast::Value» tick opening value closing) = value
cast_step (Cast-F.«Cast::Pattern» tick opening pattern closing) = pattern

abbrev pub dimension_step : Dimension-F Bool Bool Bool Bool Bool Bool Bool Bool → Bool
dimension_step (Dimension-F.Size opening size closing) = size
dimension_step (Dimension-F.«Dimension::Range» opening left colon right closing) = left && right

abbrev pub expr_step : Expr-F Bool Bool Bool Bool Bool Bool Bool Bool → Bool
expr_step (Expr-F.Conditional test question first colon second) = test && (first && second)
expr_step (Expr-F.Binary left operator at right) = left && right
expr_step (Expr-F.Inside sought keyword opening ranges closing) = sought && all ranges
expr_step (Expr-F.Unary operator at operand) = operand
expr_step (Expr-F.«Expr::Decimal» digits) = true
expr_step (Expr-F.Sized size digits) = true
expr_step (Expr-F.SizeCast size cast) = cast
expr_step (Expr-F.Based digits) = true
expr_step (Expr-F.Fill digit) = true
expr_step (Expr-F.«Expr::Parenthesized» opening inner closing cast) = inner && if_there cast
expr_step (Expr-F.«Expr::Replication» opening times inner_opening items inner_closing closing) = times && some_and_all items
expr_step (Expr-F.Concatenation opening items closing) = some_and_all items
expr_step (Expr-F.Stream opening operator at size inner_opening items inner_closing closing) = if_there size && some_and_all items
expr_step (Expr-F.«Expr::Pattern» tick opening pattern closing) = pattern
expr_step (Expr-F.Type of packed cast) = all packed && if_there cast
expr_step (Expr-F.SigningCast signing cast) = cast
expr_step (Expr-F.SystemCall name opening argument closing) = argument
expr_step (Expr-F.Call of opening arguments closing cast) = all arguments && if_there cast
expr_step (Expr-F.«Expr::Name» of selects cast) = all selects && if_there cast

abbrev pub pattern_step : Pattern-F Bool Bool Bool Bool Bool Bool Bool Bool → Bool
pattern_step (Pattern-F.Items items) = all items
pattern_step (Pattern-F.«Pattern::Replication» times opening items closing) = times && all items

abbrev pub item_step : PatternItem-F Bool Bool Bool Bool Bool Bool Bool Bool → Bool
item_step (PatternItem-F.Default keyword colon item) = item
item_step (PatternItem-F.Keyed key colon item) = key && item
item_step (PatternItem-F.«PatternItem::Value» item) = item

abbrev pub select_step : Select-F Bool Bool Bool Bool Bool Bool Bool Bool → Bool
select_step (Select-F.Member dot name) = true
select_step (Select-F.Index opening index closing) = index
select_step (Select-F.Part opening left operator at right closing) = left && right

abbrev pub slice_step : SliceSize-F Bool Bool Bool Bool Bool Bool Bool Bool → Bool
slice_step (SliceSize-F.«SliceSize::Decimal» digits) = true
slice_step (SliceSize-F.Keyword of) = true
slice_step (SliceSize-F.«SliceSize::Name» of) = true
slice_step (SliceSize-F.«SliceSize::Parenthesized» opening size closing) = size

abbrev pub range_step : ValueRange-F Bool Bool Bool Bool Bool Bool Bool Bool → Bool
range_step (ValueRange-F.«ValueRange::Value» v) = v
range_step (ValueRange-F.«ValueRange::Range» opening low colon high closing) = low && high

abbrev pub cast_written : Cast → Bool
cast_written = fold-Cast Bool Bool Bool Bool Bool Bool Bool Bool cast_step dimension_step expr_step pattern_step item_step select_step slice_step range_step

abbrev pub dimension_written : Dimension → Bool
dimension_written = fold-Dimension Bool Bool Bool Bool Bool Bool Bool Bool cast_step dimension_step expr_step pattern_step item_step select_step slice_step range_step

abbrev pub is_written : Expr → Bool
is_written = fold-Expr Bool Bool Bool Bool Bool Bool Bool Bool cast_step dimension_step expr_step pattern_step item_step select_step slice_step range_step

abbrev pub pattern_written : Pattern → Bool
pattern_written = fold-Pattern Bool Bool Bool Bool Bool Bool Bool Bool cast_step dimension_step expr_step pattern_step item_step select_step slice_step range_step

abbrev pub item_written : PatternItem → Bool
item_written = fold-PatternItem Bool Bool Bool Bool Bool Bool Bool Bool cast_step dimension_step expr_step pattern_step item_step select_step slice_step range_step

abbrev pub select_written : Select → Bool
select_written = fold-Select Bool Bool Bool Bool Bool Bool Bool Bool cast_step dimension_step expr_step pattern_step item_step select_step slice_step range_step

abbrev pub slice_written : SliceSize → Bool
slice_written = fold-SliceSize Bool Bool Bool Bool Bool Bool Bool Bool cast_step dimension_step expr_step pattern_step item_step select_step slice_step range_step

abbrev pub range_written : ValueRange → Bool
range_written = fold-ValueRange Bool Bool Bool Bool Bool Bool Bool Bool cast_step dimension_step expr_step pattern_step item_step select_step slice_step range_step
