-- What stands in an expression is smaller.
use Rattle.std.proofs.Common.{◌≤◌, ◌+◌, ℕ, suc, List, [], ◌∷◌, ◌++◌, map, Some, None, arith, subst}
use Rattle.std.specs.Prelude.{flat_map}
use Rattle.sv_tree.specs.declared.expressions.Cast.{Cast, Cast-F, fold_out-Cast, map-Cast, out-Cast}
use Rattle.sv_tree.specs.declared.expressions.Dimension.{Dimension, Dimension-F, fold_out-Dimension, map-Dimension, out-Dimension}
use Rattle.sv_tree.specs.declared.expressions.Expr.{Expr, Expr-F, fold_out-Expr, map-Expr, out-Expr}
use Rattle.sv_tree.specs.declared.expressions.Pattern.{Pattern, Pattern-F, fold_out-Pattern, map-Pattern, out-Pattern}
use Rattle.sv_tree.specs.declared.expressions.PatternItem.{PatternItem, PatternItem-F, fold_out-PatternItem, map-PatternItem, out-PatternItem}
use Rattle.sv_tree.specs.declared.expressions.Select.{Select, Select-F, fold_out-Select, map-Select, out-Select}
use Rattle.sv_tree.specs.declared.expressions.SliceSize.{SliceSize, SliceSize-F, fold_out-SliceSize, map-SliceSize, out-SliceSize}
use Rattle.sv_tree.specs.declared.expressions.ValueRange.{ValueRange, ValueRange-F, fold_out-ValueRange, map-ValueRange, out-ValueRange}
use Rattle.typing_values.specs.Children.{in_ranges, in_dimensions, in_selects, in_item, in_pattern, in_cast}
use Rattle.typing_operators.specs.Children as C
use Rattle.typing_operators.specs.Children.{AllWithin, children, children_in, in_type, sum, uncast, nodes, cast_nodes, dimension_nodes, pattern_nodes, item_nodes, select_nodes, slice_nodes, range_nodes}

left-le : (a b n : ℕ) → a + b ≤ n → a ≤ n
left-le a b n w = omega arith

right-le : (a b n : ℕ) → a + b ≤ n → b ≤ n
right-le a b n w = omega arith

more-le : (a n : ℕ) → a ≤ n → a ≤ suc n
more-le a n w = omega arith

suc-le : (a n : ℕ) → suc a ≤ suc n → a ≤ n
suc-le a n w = omega arith

within-append : (n : ℕ) (xs ys : List Expr) → AllWithin n xs → AllWithin n ys → AllWithin n (xs ++ ys)
within-append n [] ys p q = q
within-append n (x ∷ xs) ys p q = (p.0, within-append n xs ys p.1 q)

exprs : (n : ℕ) (es : List Expr) → sum (map nodes es) ≤ n → AllWithin n es
exprs n [] w = tt
exprs n (e ∷ es) w = (left-le (nodes e) (sum (map nodes es)) n w, exprs n es (right-le (nodes e) (sum (map nodes es)) n w))

one : (n : ℕ) (e : Expr) → nodes e ≤ n → AllWithin n (e ∷ [])
one n e w = (w, tt)

two : (n : ℕ) (l r : Expr) → nodes l + nodes r ≤ n → AllWithin n (l ∷ r ∷ [])
two n l r w = (left-le (nodes l) (nodes r) n w, (right-le (nodes l) (nodes r) n w, tt))

abbrev range_layer : ValueRange-F Cast Dimension Expr Pattern PatternItem Select SliceSize ValueRange → List Expr
range_layer z = elim z [
  | ValueRange-F.«ValueRange::Value» v ↦ v ∷ []
  | ValueRange-F.«ValueRange::Range» opening low colon high closing ↦ low ∷ high ∷ []
]

abbrev dimension_layer : Dimension-F Cast Dimension Expr Pattern PatternItem Select SliceSize ValueRange → List Expr
dimension_layer z = elim z [
  | Dimension-F.Size opening size closing ↦ size ∷ []
  | Dimension-F.«Dimension::Range» opening left colon right closing ↦ left ∷ right ∷ []
]

abbrev select_layer : Select-F Cast Dimension Expr Pattern PatternItem Select SliceSize ValueRange → List Expr
select_layer z = elim z [
  | Select-F.Member dot name ↦ []
  | Select-F.Index opening index closing ↦ index ∷ []
  | Select-F.Part opening left operator at right closing ↦ left ∷ right ∷ []
]

abbrev item_layer : PatternItem-F Cast Dimension Expr Pattern PatternItem Select SliceSize ValueRange → List Expr
item_layer z = elim z [
  | PatternItem-F.Default keyword colon value ↦ value ∷ []
  | PatternItem-F.Keyed key colon value ↦ key ∷ value ∷ []
  | PatternItem-F.«PatternItem::Value» value ↦ value ∷ []
]

abbrev pattern_layer : Pattern-F Cast Dimension Expr Pattern PatternItem Select SliceSize ValueRange → List Expr
pattern_layer z = elim z [
  | Pattern-F.Items items ↦ flat_map in_item items
  | Pattern-F.«Pattern::Replication» times opening items closing ↦ times ∷ items
]

abbrev cast_layer : Cast-F Cast Dimension Expr Pattern PatternItem Select SliceSize ValueRange → List Expr
cast_layer z = elim z [
  | Cast-F.«Cast::Value» tick opening value closing ↦ value ∷ []
  | Cast-F.«Cast::Pattern» tick opening pattern closing ↦ in_pattern pattern
]

abbrev slice_layer : SliceSize-F Cast Dimension Expr Pattern PatternItem Select SliceSize ValueRange → List Expr
slice_layer z = elim z [
  | SliceSize-F.«SliceSize::Decimal» digits ↦ []
  | SliceSize-F.Keyword of ↦ []
  | SliceSize-F.«SliceSize::Name» of ↦ []
  | SliceSize-F.«SliceSize::Parenthesized» opening value closing ↦ value ∷ []
]

range-by : (n : ℕ) (z : ValueRange-F Cast Dimension Expr Pattern PatternItem Select SliceSize ValueRange) → C.range_step (map-ValueRange Cast Dimension Expr Pattern PatternItem Select SliceSize ValueRange ℕ ℕ ℕ ℕ ℕ ℕ ℕ ℕ cast_nodes dimension_nodes nodes pattern_nodes item_nodes select_nodes slice_nodes range_nodes z) ≤ n → AllWithin n (range_layer z)
range-by n (ValueRange-F.«ValueRange::Value» v) w = one n v w
range-by n (ValueRange-F.«ValueRange::Range» opening low colon high closing) w = two n low high w

range : (n : ℕ) (x : ValueRange) → range_nodes x ≤ n → AllWithin n (range_layer (out-ValueRange x))
range n x w = range-by n (out-ValueRange x) (subst (λ (m : ℕ). m ≤ n) (fold_out-ValueRange ℕ ℕ ℕ ℕ ℕ ℕ ℕ ℕ C.cast_step C.dimension_step C.expr_step C.pattern_step C.item_step C.select_step C.slice_step C.range_step x) w)

ranges : (n : ℕ) (xs : List ValueRange) → sum (map range_nodes xs) ≤ n → AllWithin n (in_ranges xs)
ranges n [] w = tt
ranges n (x ∷ xs) w = within-append n (range_layer (out-ValueRange x)) (in_ranges xs) (range n x (left-le (range_nodes x) (sum (map range_nodes xs)) n w)) (ranges n xs (right-le (range_nodes x) (sum (map range_nodes xs)) n w))

dimension-by : (n : ℕ) (z : Dimension-F Cast Dimension Expr Pattern PatternItem Select SliceSize ValueRange) → C.dimension_step (map-Dimension Cast Dimension Expr Pattern PatternItem Select SliceSize ValueRange ℕ ℕ ℕ ℕ ℕ ℕ ℕ ℕ cast_nodes dimension_nodes nodes pattern_nodes item_nodes select_nodes slice_nodes range_nodes z) ≤ n → AllWithin n (dimension_layer z)
dimension-by n (Dimension-F.Size opening size closing) w = one n size w
dimension-by n (Dimension-F.«Dimension::Range» opening left colon right closing) w = two n left right w

dimension : (n : ℕ) (x : Dimension) → dimension_nodes x ≤ n → AllWithin n (dimension_layer (out-Dimension x))
dimension n x w = dimension-by n (out-Dimension x) (subst (λ (m : ℕ). m ≤ n) (fold_out-Dimension ℕ ℕ ℕ ℕ ℕ ℕ ℕ ℕ C.cast_step C.dimension_step C.expr_step C.pattern_step C.item_step C.select_step C.slice_step C.range_step x) w)

dimensions : (n : ℕ) (xs : List Dimension) → sum (map dimension_nodes xs) ≤ n → AllWithin n (in_dimensions xs)
dimensions n [] w = tt
dimensions n (x ∷ xs) w = within-append n (dimension_layer (out-Dimension x)) (in_dimensions xs) (dimension n x (left-le (dimension_nodes x) (sum (map dimension_nodes xs)) n w)) (dimensions n xs (right-le (dimension_nodes x) (sum (map dimension_nodes xs)) n w))

select-by : (n : ℕ) (z : Select-F Cast Dimension Expr Pattern PatternItem Select SliceSize ValueRange) → C.select_step (map-Select Cast Dimension Expr Pattern PatternItem Select SliceSize ValueRange ℕ ℕ ℕ ℕ ℕ ℕ ℕ ℕ cast_nodes dimension_nodes nodes pattern_nodes item_nodes select_nodes slice_nodes range_nodes z) ≤ n → AllWithin n (select_layer z)
select-by n (Select-F.Member dot name) w = tt
select-by n (Select-F.Index opening index closing) w = one n index w
select-by n (Select-F.Part opening left operator at right closing) w = two n left right w

select : (n : ℕ) (x : Select) → select_nodes x ≤ n → AllWithin n (select_layer (out-Select x))
select n x w = select-by n (out-Select x) (subst (λ (m : ℕ). m ≤ n) (fold_out-Select ℕ ℕ ℕ ℕ ℕ ℕ ℕ ℕ C.cast_step C.dimension_step C.expr_step C.pattern_step C.item_step C.select_step C.slice_step C.range_step x) w)

selects : (n : ℕ) (xs : List Select) → sum (map select_nodes xs) ≤ n → AllWithin n (in_selects xs)
selects n [] w = tt
selects n (x ∷ xs) w = within-append n (select_layer (out-Select x)) (in_selects xs) (select n x (left-le (select_nodes x) (sum (map select_nodes xs)) n w)) (selects n xs (right-le (select_nodes x) (sum (map select_nodes xs)) n w))

item-by : (n : ℕ) (z : PatternItem-F Cast Dimension Expr Pattern PatternItem Select SliceSize ValueRange) → C.item_step (map-PatternItem Cast Dimension Expr Pattern PatternItem Select SliceSize ValueRange ℕ ℕ ℕ ℕ ℕ ℕ ℕ ℕ cast_nodes dimension_nodes nodes pattern_nodes item_nodes select_nodes slice_nodes range_nodes z) ≤ n → AllWithin n (item_layer z)
item-by n (PatternItem-F.Default keyword colon value) w = one n value w
item-by n (PatternItem-F.Keyed key colon value) w = two n key value w
item-by n (PatternItem-F.«PatternItem::Value» value) w = one n value w

item : (n : ℕ) (x : PatternItem) → item_nodes x ≤ n → AllWithin n (item_layer (out-PatternItem x))
item n x w = item-by n (out-PatternItem x) (subst (λ (m : ℕ). m ≤ n) (fold_out-PatternItem ℕ ℕ ℕ ℕ ℕ ℕ ℕ ℕ C.cast_step C.dimension_step C.expr_step C.pattern_step C.item_step C.select_step C.slice_step C.range_step x) w)

items : (n : ℕ) (xs : List PatternItem) → sum (map item_nodes xs) ≤ n → AllWithin n (flat_map in_item xs)
items n [] w = tt
items n (x ∷ xs) w = within-append n (item_layer (out-PatternItem x)) (flat_map in_item xs) (item n x (left-le (item_nodes x) (sum (map item_nodes xs)) n w)) (items n xs (right-le (item_nodes x) (sum (map item_nodes xs)) n w))

pattern-by : (n : ℕ) (z : Pattern-F Cast Dimension Expr Pattern PatternItem Select SliceSize ValueRange) → C.pattern_step (map-Pattern Cast Dimension Expr Pattern PatternItem Select SliceSize ValueRange ℕ ℕ ℕ ℕ ℕ ℕ ℕ ℕ cast_nodes dimension_nodes nodes pattern_nodes item_nodes select_nodes slice_nodes range_nodes z) ≤ n → AllWithin n (pattern_layer z)
pattern-by n (Pattern-F.Items is) w = items n is w
pattern-by n (Pattern-F.«Pattern::Replication» times opening items closing) w = (left-le (nodes times) (sum (map nodes items)) n w, exprs n items (right-le (nodes times) (sum (map nodes items)) n w))

pattern : (n : ℕ) (x : Pattern) → pattern_nodes x ≤ n → AllWithin n (pattern_layer (out-Pattern x))
pattern n x w = pattern-by n (out-Pattern x) (subst (λ (m : ℕ). m ≤ n) (fold_out-Pattern ℕ ℕ ℕ ℕ ℕ ℕ ℕ ℕ C.cast_step C.dimension_step C.expr_step C.pattern_step C.item_step C.select_step C.slice_step C.range_step x) w)

cast-by : (n : ℕ) (z : Cast-F Cast Dimension Expr Pattern PatternItem Select SliceSize ValueRange) → C.cast_step (map-Cast Cast Dimension Expr Pattern PatternItem Select SliceSize ValueRange ℕ ℕ ℕ ℕ ℕ ℕ ℕ ℕ cast_nodes dimension_nodes nodes pattern_nodes item_nodes select_nodes slice_nodes range_nodes z) ≤ n → AllWithin n (cast_layer z)
cast-by n (Cast-F.«Cast::Value» tick opening value closing) w = one n value w
cast-by n (Cast-F.«Cast::Pattern» tick opening p closing) w = pattern n p w

cast : (n : ℕ) (x : Cast) → cast_nodes x ≤ n → AllWithin n (cast_layer (out-Cast x))
cast n x w = cast-by n (out-Cast x) (subst (λ (m : ℕ). m ≤ n) (fold_out-Cast ℕ ℕ ℕ ℕ ℕ ℕ ℕ ℕ C.cast_step C.dimension_step C.expr_step C.pattern_step C.item_step C.select_step C.slice_step C.range_step x) w)

slice-by : (n : ℕ) (z : SliceSize-F Cast Dimension Expr Pattern PatternItem Select SliceSize ValueRange) → C.slice_step (map-SliceSize Cast Dimension Expr Pattern PatternItem Select SliceSize ValueRange ℕ ℕ ℕ ℕ ℕ ℕ ℕ ℕ cast_nodes dimension_nodes nodes pattern_nodes item_nodes select_nodes slice_nodes range_nodes z) ≤ n → AllWithin n (slice_layer z)
slice-by n (SliceSize-F.«SliceSize::Decimal» digits) w = tt
slice-by n (SliceSize-F.Keyword of) w = tt
slice-by n (SliceSize-F.«SliceSize::Name» of) w = tt
slice-by n (SliceSize-F.«SliceSize::Parenthesized» opening value closing) w = one n value w

slice : (n : ℕ) (x : SliceSize) → slice_nodes x ≤ n → AllWithin n (slice_layer (out-SliceSize x))
slice n x w = slice-by n (out-SliceSize x) (subst (λ (m : ℕ). m ≤ n) (fold_out-SliceSize ℕ ℕ ℕ ℕ ℕ ℕ ℕ ℕ C.cast_step C.dimension_step C.expr_step C.pattern_step C.item_step C.select_step C.slice_step C.range_step x) w)

abbrev type_layer : Expr-F Cast Dimension Expr Pattern PatternItem Select SliceSize ValueRange → List Expr
type_layer z = elim z [
  | Expr-F.Type of packed cast ↦ uncast cast (in_dimensions packed)
  | Expr-F.«Expr::Name» of selects cast ↦ uncast cast (in_selects selects)
  | _ ↦ []
]

type-by : (n : ℕ) (z : Expr-F Cast Dimension Expr Pattern PatternItem Select SliceSize ValueRange) → C.expr_step (map-Expr Cast Dimension Expr Pattern PatternItem Select SliceSize ValueRange ℕ ℕ ℕ ℕ ℕ ℕ ℕ ℕ cast_nodes dimension_nodes nodes pattern_nodes item_nodes select_nodes slice_nodes range_nodes z) ≤ suc n → AllWithin n (type_layer z)
type-by n (Expr-F.Type of ds None) w = let v = suc-le (sum (map dimension_nodes ds) + 0) n w in dimensions n ds (left-le (sum (map dimension_nodes ds)) 0 n v)
type-by n (Expr-F.Type of ds (Some c)) w = tt
type-by n (Expr-F.«Expr::Name» of ss None) w = let v = suc-le (sum (map select_nodes ss) + 0) n w in selects n ss (left-le (sum (map select_nodes ss)) 0 n v)
type-by n (Expr-F.«Expr::Name» of ss (Some c)) w = tt
type-by n (Expr-F.Conditional test question first colon second) w = tt
type-by n (Expr-F.Binary left operator at right) w = tt
type-by n (Expr-F.Inside value keyword opening rs closing) w = tt
type-by n (Expr-F.Unary operator at operand) w = tt
type-by n (Expr-F.«Expr::Decimal» digits) w = tt
type-by n (Expr-F.Sized size digits) w = tt
type-by n (Expr-F.SizeCast size c) w = tt
type-by n (Expr-F.Based digits) w = tt
type-by n (Expr-F.Fill digit) w = tt
type-by n (Expr-F.«Expr::Parenthesized» opening value closing c) w = tt
type-by n (Expr-F.«Expr::Replication» opening times inner_opening es inner_closing closing) w = tt
type-by n (Expr-F.Concatenation opening es closing) w = tt
type-by n (Expr-F.Stream opening operator at z inner_opening es inner_closing closing) w = tt
type-by n (Expr-F.«Expr::Pattern» tick opening p closing) w = tt
type-by n (Expr-F.SigningCast signing c) w = tt
type-by n (Expr-F.SystemCall name opening argument closing) w = tt
type-by n (Expr-F.Call of opening es closing c) w = tt

-- what stands in a type is as small as the type
type-within : (n : ℕ) (e : Expr) → nodes e ≤ n → AllWithin n (in_type e)
type-within n e w = type-by n (out-Expr e) (more-le (C.expr_step (map-Expr Cast Dimension Expr Pattern PatternItem Select SliceSize ValueRange ℕ ℕ ℕ ℕ ℕ ℕ ℕ ℕ cast_nodes dimension_nodes nodes pattern_nodes item_nodes select_nodes slice_nodes range_nodes (out-Expr e))) n (subst (λ (m : ℕ). m ≤ n) (fold_out-Expr ℕ ℕ ℕ ℕ ℕ ℕ ℕ ℕ C.cast_step C.dimension_step C.expr_step C.pattern_step C.item_step C.select_step C.slice_step C.range_step e) w))

smaller-by : (n : ℕ) (z : Expr-F Cast Dimension Expr Pattern PatternItem Select SliceSize ValueRange) → C.expr_step (map-Expr Cast Dimension Expr Pattern PatternItem Select SliceSize ValueRange ℕ ℕ ℕ ℕ ℕ ℕ ℕ ℕ cast_nodes dimension_nodes nodes pattern_nodes item_nodes select_nodes slice_nodes range_nodes z) ≤ suc n → AllWithin n (children_in z)
smaller-by n (Expr-F.Conditional test question first colon second) w =
    let v = suc-le (nodes test + (nodes first + nodes second)) n w in
    (left-le (nodes test) (nodes first + nodes second) n v, two n first second (right-le (nodes test) (nodes first + nodes second) n v))
smaller-by n (Expr-F.Binary left operator at right) w = let v = suc-le (nodes left + nodes right) n w in two n left right v
smaller-by n (Expr-F.Inside value keyword opening rs closing) w = let v = suc-le (nodes value + sum (map range_nodes rs)) n w in (left-le (nodes value) (sum (map range_nodes rs)) n v, ranges n rs (right-le (nodes value) (sum (map range_nodes rs)) n v))
smaller-by n (Expr-F.Unary operator at operand) w = one n operand (suc-le (nodes operand) n w)
smaller-by n (Expr-F.«Expr::Decimal» digits) w = tt
smaller-by n (Expr-F.Sized size digits) w = tt
smaller-by n (Expr-F.SizeCast size c) w = cast n c (suc-le (cast_nodes c) n w)
smaller-by n (Expr-F.Based digits) w = tt
smaller-by n (Expr-F.Fill digit) w = tt
smaller-by n (Expr-F.«Expr::Parenthesized» opening value closing None) w = let v = suc-le (nodes value + 0) n w in one n value (left-le (nodes value) 0 n v)
smaller-by n (Expr-F.«Expr::Parenthesized» opening value closing (Some c)) w = let v = suc-le (nodes value + cast_nodes c) n w in (left-le (nodes value) (cast_nodes c) n v, cast n c (right-le (nodes value) (cast_nodes c) n v))
smaller-by n (Expr-F.«Expr::Replication» opening times inner_opening es inner_closing closing) w = let v = suc-le (nodes times + sum (map nodes es)) n w in (left-le (nodes times) (sum (map nodes es)) n v, exprs n es (right-le (nodes times) (sum (map nodes es)) n v))
smaller-by n (Expr-F.Concatenation opening es closing) w = exprs n es (suc-le (sum (map nodes es)) n w)
smaller-by n (Expr-F.Stream opening operator at None inner_opening es inner_closing closing) w = let v = suc-le (0 + sum (map nodes es)) n w in exprs n es (right-le 0 (sum (map nodes es)) n v)
smaller-by n (Expr-F.Stream opening operator at (Some z) inner_opening es inner_closing closing) w =
    let v = suc-le (slice_nodes z + sum (map nodes es)) n w in
    within-append n (slice_layer (out-SliceSize z)) es (slice n z (left-le (slice_nodes z) (sum (map nodes es)) n v)) (exprs n es (right-le (slice_nodes z) (sum (map nodes es)) n v))
smaller-by n (Expr-F.«Expr::Pattern» tick opening p closing) w = pattern n p (suc-le (pattern_nodes p) n w)
smaller-by n (Expr-F.Type of ds None) w = let v = suc-le (sum (map dimension_nodes ds) + 0) n w in within-append n (in_dimensions ds) [] (dimensions n ds (left-le (sum (map dimension_nodes ds)) 0 n v)) tt
smaller-by n (Expr-F.Type of ds (Some c)) w =
    let v = suc-le (sum (map dimension_nodes ds) + cast_nodes c) n w in
    within-append n (in_dimensions ds) (in_cast c) (dimensions n ds (left-le (sum (map dimension_nodes ds)) (cast_nodes c) n v)) (cast n c (right-le (sum (map dimension_nodes ds)) (cast_nodes c) n v))
smaller-by n (Expr-F.SigningCast signing c) w = cast n c (suc-le (cast_nodes c) n w)
smaller-by n (Expr-F.SystemCall name opening argument closing) w = let v = suc-le (nodes argument) n w in (v, type-within n argument v)
smaller-by n (Expr-F.Call of opening es closing None) w = let v = suc-le (sum (map nodes es) + 0) n w in within-append n (es) [] (exprs n es (left-le (sum (map nodes es)) 0 n v)) tt
smaller-by n (Expr-F.Call of opening es closing (Some c)) w =
    let v = suc-le (sum (map nodes es) + cast_nodes c) n w in
    within-append n (es) (in_cast c) (exprs n es (left-le (sum (map nodes es)) (cast_nodes c) n v)) (cast n c (right-le (sum (map nodes es)) (cast_nodes c) n v))
smaller-by n (Expr-F.«Expr::Name» of ss None) w = let v = suc-le (sum (map select_nodes ss) + 0) n w in within-append n (in_selects ss) [] (selects n ss (left-le (sum (map select_nodes ss)) 0 n v)) tt
smaller-by n (Expr-F.«Expr::Name» of ss (Some c)) w =
    let v = suc-le (sum (map select_nodes ss) + cast_nodes c) n w in
    within-append n (in_selects ss) (in_cast c) (selects n ss (left-le (sum (map select_nodes ss)) (cast_nodes c) n v)) (cast n c (right-le (sum (map select_nodes ss)) (cast_nodes c) n v))

pub children-within : (n : ℕ) (e : Expr) → nodes e ≤ suc n → AllWithin n (children e)
children-within n e w = smaller-by n (out-Expr e) (subst (λ (m : ℕ). m ≤ suc n) (fold_out-Expr ℕ ℕ ℕ ℕ ℕ ℕ ℕ ℕ C.cast_step C.dimension_step C.expr_step C.pattern_step C.item_step C.select_step C.slice_step C.range_step e) w)
