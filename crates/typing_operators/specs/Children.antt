-- The expressions that stand in an expression, in the order of the text, and how many there are in all levels.
use Rattle.std.specs.Prelude.{◌≡◌, ◌≤◌, ⊤, ℕ, suc, ◌+◌, true, List, [], ◌∷◌, ◌++◌, Option, Some, None}
use Rattle.sv_tree.specs.declared.expressions.Cast.{Cast, Cast-F, fold-Cast}
use Rattle.sv_tree.specs.declared.expressions.Dimension.{Dimension, Dimension-F, fold-Dimension}
use Rattle.sv_tree.specs.declared.expressions.Expr.{Expr, Expr-F, fold-Expr, out-Expr}
use Rattle.sv_tree.specs.declared.expressions.Pattern.{Pattern, Pattern-F, fold-Pattern}
use Rattle.sv_tree.specs.declared.expressions.PatternItem.{PatternItem, PatternItem-F, fold-PatternItem}
use Rattle.sv_tree.specs.declared.expressions.Select.{Select, Select-F, fold-Select}
use Rattle.sv_tree.specs.declared.expressions.SliceSize.{SliceSize, SliceSize-F, fold-SliceSize}
use Rattle.sv_tree.specs.declared.expressions.ValueRange.{ValueRange, ValueRange-F, fold-ValueRange}
use Rattle.typing_values.specs.Children.{in_cast, in_dimensions, in_pattern, in_ranges, in_selects, in_slice}
use Rattle.typing_walks.specs.Written.{is_written}

abbrev pub in_casts : Option Cast → List Expr
in_casts None = []
in_casts (Some c) = in_cast c

-- those of an expression that is a type, under `$bits`
abbrev pub uncast : Option Cast → List Expr → List Expr
uncast None es = es
uncast (Some c) es = []

abbrev pub in_type : Expr → List Expr
in_type e = elim (out-Expr e) [
  | Expr-F.Type of packed cast ↦ uncast cast (in_dimensions packed)
  | Expr-F.«Expr::Name» of selects cast ↦ uncast cast (in_selects selects)
  | _ ↦ []
]

abbrev pub children_in : Expr-F Cast Dimension Expr Pattern PatternItem Select SliceSize ValueRange → List Expr
children_in (Expr-F.Conditional test question first colon second) = test ∷ first ∷ second ∷ []
children_in (Expr-F.Binary left operator at right) = left ∷ right ∷ []
children_in (Expr-F.Inside value keyword opening ranges closing) = value ∷ in_ranges ranges
children_in (Expr-F.Unary operator at operand) = operand ∷ []
children_in (Expr-F.«Expr::Decimal» digits) = []
children_in (Expr-F.Sized size digits) = []
children_in (Expr-F.SizeCast size cast) = in_cast cast
children_in (Expr-F.Based digits) = []
children_in (Expr-F.Fill digit) = []
children_in (Expr-F.«Expr::Parenthesized» opening value closing cast) = value ∷ in_casts cast
children_in (Expr-F.«Expr::Replication» opening times inner_opening items inner_closing closing) = times ∷ items
children_in (Expr-F.Concatenation opening items closing) = items
children_in (Expr-F.Stream opening operator at size inner_opening items inner_closing closing) = in_slice size ++ items
children_in (Expr-F.«Expr::Pattern» tick opening pattern closing) = in_pattern pattern
children_in (Expr-F.Type of packed cast) = in_dimensions packed ++ in_casts cast
children_in (Expr-F.SigningCast signing cast) = in_cast cast
children_in (Expr-F.SystemCall name opening argument closing) = argument ∷ in_type argument
children_in (Expr-F.Call of opening arguments closing cast) = arguments ++ in_casts cast
children_in (Expr-F.«Expr::Name» of selects cast) = in_selects selects ++ in_casts cast

abbrev pub children : Expr → List Expr
children e = children_in (out-Expr e)

-- all expressions in it, and itself
abbrev pub sum : List ℕ → ℕ
sum [] = 0
sum (n ∷ ns) = n + sum ns

abbrev pub if_there : Option ℕ → ℕ
if_there None = 0
if_there (Some n) = n

abbrev pub cast_step : Cast-F ℕ ℕ ℕ ℕ ℕ ℕ ℕ ℕ → ℕ
cast_step (Cast-F.«Cast::Value» tick opening value closing) = value
cast_step (Cast-F.«Cast::Pattern» tick opening pattern closing) = pattern

abbrev pub dimension_step : Dimension-F ℕ ℕ ℕ ℕ ℕ ℕ ℕ ℕ → ℕ
dimension_step (Dimension-F.Size opening size closing) = size
dimension_step (Dimension-F.«Dimension::Range» opening left colon right closing) = left + right

abbrev pub expr_step : Expr-F ℕ ℕ ℕ ℕ ℕ ℕ ℕ ℕ → ℕ
expr_step (Expr-F.Conditional test question first colon second) = suc (test + (first + second))
expr_step (Expr-F.Binary left operator at right) = suc (left + right)
expr_step (Expr-F.Inside value keyword opening ranges closing) = suc (value + sum ranges)
expr_step (Expr-F.Unary operator at operand) = suc operand
expr_step (Expr-F.«Expr::Decimal» digits) = 1
expr_step (Expr-F.Sized size digits) = 1
expr_step (Expr-F.SizeCast size cast) = suc cast
expr_step (Expr-F.Based digits) = 1
expr_step (Expr-F.Fill digit) = 1
expr_step (Expr-F.«Expr::Parenthesized» opening value closing cast) = suc (value + if_there cast)
expr_step (Expr-F.«Expr::Replication» opening times inner_opening items inner_closing closing) = suc (times + sum items)
expr_step (Expr-F.Concatenation opening items closing) = suc (sum items)
expr_step (Expr-F.Stream opening operator at size inner_opening items inner_closing closing) = suc (if_there size + sum items)
expr_step (Expr-F.«Expr::Pattern» tick opening pattern closing) = suc pattern
expr_step (Expr-F.Type of packed cast) = suc (sum packed + if_there cast)
expr_step (Expr-F.SigningCast signing cast) = suc cast
expr_step (Expr-F.SystemCall name opening argument closing) = suc argument
expr_step (Expr-F.Call of opening arguments closing cast) = suc (sum arguments + if_there cast)
expr_step (Expr-F.«Expr::Name» of selects cast) = suc (sum selects + if_there cast)

abbrev pub pattern_step : Pattern-F ℕ ℕ ℕ ℕ ℕ ℕ ℕ ℕ → ℕ
pattern_step (Pattern-F.Items items) = sum items
pattern_step (Pattern-F.«Pattern::Replication» times opening items closing) = times + sum items

abbrev pub item_step : PatternItem-F ℕ ℕ ℕ ℕ ℕ ℕ ℕ ℕ → ℕ
item_step (PatternItem-F.Default keyword colon value) = value
item_step (PatternItem-F.Keyed key colon value) = key + value
item_step (PatternItem-F.«PatternItem::Value» value) = value

abbrev pub select_step : Select-F ℕ ℕ ℕ ℕ ℕ ℕ ℕ ℕ → ℕ
select_step (Select-F.Member dot name) = 0
select_step (Select-F.Index opening index closing) = index
select_step (Select-F.Part opening left operator at right closing) = left + right

abbrev pub slice_step : SliceSize-F ℕ ℕ ℕ ℕ ℕ ℕ ℕ ℕ → ℕ
slice_step (SliceSize-F.«SliceSize::Decimal» digits) = 0
slice_step (SliceSize-F.Keyword of) = 0
slice_step (SliceSize-F.«SliceSize::Name» of) = 0
slice_step (SliceSize-F.«SliceSize::Parenthesized» opening value closing) = value

abbrev pub range_step : ValueRange-F ℕ ℕ ℕ ℕ ℕ ℕ ℕ ℕ → ℕ
range_step (ValueRange-F.«ValueRange::Value» v) = v
range_step (ValueRange-F.«ValueRange::Range» opening low colon high closing) = low + high

abbrev pub nodes : Expr → ℕ
nodes = fold-Expr ℕ ℕ ℕ ℕ ℕ ℕ ℕ ℕ cast_step dimension_step expr_step pattern_step item_step select_step slice_step range_step

abbrev pub cast_nodes : Cast → ℕ
cast_nodes = fold-Cast ℕ ℕ ℕ ℕ ℕ ℕ ℕ ℕ cast_step dimension_step expr_step pattern_step item_step select_step slice_step range_step

abbrev pub dimension_nodes : Dimension → ℕ
dimension_nodes = fold-Dimension ℕ ℕ ℕ ℕ ℕ ℕ ℕ ℕ cast_step dimension_step expr_step pattern_step item_step select_step slice_step range_step

abbrev pub pattern_nodes : Pattern → ℕ
pattern_nodes = fold-Pattern ℕ ℕ ℕ ℕ ℕ ℕ ℕ ℕ cast_step dimension_step expr_step pattern_step item_step select_step slice_step range_step

abbrev pub item_nodes : PatternItem → ℕ
item_nodes = fold-PatternItem ℕ ℕ ℕ ℕ ℕ ℕ ℕ ℕ cast_step dimension_step expr_step pattern_step item_step select_step slice_step range_step

abbrev pub select_nodes : Select → ℕ
select_nodes = fold-Select ℕ ℕ ℕ ℕ ℕ ℕ ℕ ℕ cast_step dimension_step expr_step pattern_step item_step select_step slice_step range_step

abbrev pub slice_nodes : SliceSize → ℕ
slice_nodes = fold-SliceSize ℕ ℕ ℕ ℕ ℕ ℕ ℕ ℕ cast_step dimension_step expr_step pattern_step item_step select_step slice_step range_step

abbrev pub range_nodes : ValueRange → ℕ
range_nodes = fold-ValueRange ℕ ℕ ℕ ℕ ℕ ℕ ℕ ℕ cast_step dimension_step expr_step pattern_step item_step select_step slice_step range_step

-- each of some expressions has a part in each concatenation, replication and stream, and is no larger
abbrev pub AllWritten : List Expr → Type 0
AllWritten [] = ⊤
AllWritten (e ∷ es) = (is_written e ≡ true) × AllWritten es

abbrev pub AllWithin : ℕ → List Expr → Type 0
AllWithin n [] = ⊤
AllWithin n (e ∷ es) = (nodes e ≤ n) × AllWithin n es
