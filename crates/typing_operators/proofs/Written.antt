-- In an expression in which each concatenation, replication and stream has a part, so has each in what stands in it.
use Rattle.std.proofs.Common.{◌≡◌, Bool, true, ◌&&◌, List, [], ◌∷◌, ◌++◌, map, Some, None, sym, ◌∙◌}
use Rattle.std.specs.Prelude.{flat_map}
use Rattle.sv_tree.specs.declared.expressions.Cast.{Cast, Cast-F, fold_out-Cast, map-Cast, out-Cast}
use Rattle.sv_tree.specs.declared.expressions.Dimension.{Dimension, Dimension-F, fold_out-Dimension, map-Dimension, out-Dimension}
use Rattle.sv_tree.specs.declared.expressions.Expr.{Expr, Expr-F, fold_out-Expr, map-Expr, out-Expr}
use Rattle.sv_tree.specs.declared.expressions.Pattern.{Pattern, Pattern-F, fold_out-Pattern, map-Pattern, out-Pattern}
use Rattle.sv_tree.specs.declared.expressions.PatternItem.{PatternItem, PatternItem-F, fold_out-PatternItem, map-PatternItem, out-PatternItem}
use Rattle.sv_tree.specs.declared.expressions.Select.{Select, Select-F, fold_out-Select, map-Select, out-Select}
use Rattle.sv_tree.specs.declared.expressions.SliceSize.{SliceSize, SliceSize-F, fold_out-SliceSize, map-SliceSize, out-SliceSize}
use Rattle.sv_tree.specs.declared.expressions.ValueRange.{ValueRange, ValueRange-F, fold_out-ValueRange, map-ValueRange, out-ValueRange}
use Rattle.typing_values.specs.Children.{in_ranges, in_dimensions, in_selects, in_item, in_pattern, in_cast}
use Rattle.typing_fits.proofs.Full.{and-left, and-right}
use Rattle.typing_walks.specs.Written as W
use Rattle.typing_walks.specs.Written.{all, some_and_all, is_written, cast_written, dimension_written, pattern_written, item_written, select_written, slice_written, range_written}
use Rattle.typing_operators.specs.Children.{AllWritten, children, children_in, in_type, uncast}

written-append : (xs ys : List Expr) → AllWritten xs → AllWritten ys → AllWritten (xs ++ ys)
written-append [] ys p q = q
written-append (x ∷ xs) ys p q = (p.0, written-append xs ys p.1 q)

exprs : (es : List Expr) → all (map is_written es) ≡ true → AllWritten es
exprs [] w = tt
exprs (e ∷ es) w = (and-left (is_written e) (all (map is_written es)) w, exprs es (and-right (is_written e) (all (map is_written es)) w))

some-exprs : (es : List Expr) → some_and_all (map is_written es) ≡ true → AllWritten es
some-exprs [] w = absurd (cc)
some-exprs (e ∷ es) w = exprs (e ∷ es) w

two : (l r : Expr) → (is_written l && is_written r) ≡ true → AllWritten (l ∷ r ∷ [])
two l r w = (and-left (is_written l) (is_written r) w, (and-right (is_written l) (is_written r) w, tt))

abbrev range_layer : ValueRange-F Cast Dimension Expr Pattern PatternItem Select SliceSize ValueRange → List Expr
range_layer z = elim z [
  | ValueRange-F.«ValueRange::Value» v ↦ v ∷ []
  | ValueRange-F.«ValueRange::Range» opening low colon high closing ↦ low ∷ high ∷ []
]

abbrev dimension_layer : Dimension-F Cast Dimension Expr Pattern PatternItem Select SliceSize ValueRange → List Expr
dimension_layer z = elim z [
  | Dimension-F.Size opening size closing ↦ size ∷ []
  | Dimension-F.«Dimension::Range» opening left colon right closing ↦ left ∷ right ∷ []
]

abbrev select_layer : Select-F Cast Dimension Expr Pattern PatternItem Select SliceSize ValueRange → List Expr
select_layer z = elim z [
  | Select-F.Member dot name ↦ []
  | Select-F.Index opening index closing ↦ index ∷ []
  | Select-F.Part opening left operator at right closing ↦ left ∷ right ∷ []
]

abbrev item_layer : PatternItem-F Cast Dimension Expr Pattern PatternItem Select SliceSize ValueRange → List Expr
item_layer z = elim z [
  | PatternItem-F.Default keyword colon value ↦ value ∷ []
  | PatternItem-F.Keyed key colon value ↦ key ∷ value ∷ []
  | PatternItem-F.«PatternItem::Value» value ↦ value ∷ []
]

abbrev pattern_layer : Pattern-F Cast Dimension Expr Pattern PatternItem Select SliceSize ValueRange → List Expr
pattern_layer z = elim z [
  | Pattern-F.Items items ↦ flat_map in_item items
  | Pattern-F.«Pattern::Replication» times opening items closing ↦ times ∷ items
]

abbrev cast_layer : Cast-F Cast Dimension Expr Pattern PatternItem Select SliceSize ValueRange → List Expr
cast_layer z = elim z [
  | Cast-F.«Cast::Value» tick opening value closing ↦ value ∷ []
  | Cast-F.«Cast::Pattern» tick opening pattern closing ↦ in_pattern pattern
]

abbrev slice_layer : SliceSize-F Cast Dimension Expr Pattern PatternItem Select SliceSize ValueRange → List Expr
slice_layer z = elim z [
  | SliceSize-F.«SliceSize::Decimal» digits ↦ []
  | SliceSize-F.Keyword of ↦ []
  | SliceSize-F.«SliceSize::Name» of ↦ []
  | SliceSize-F.«SliceSize::Parenthesized» opening value closing ↦ value ∷ []
]

range-by : (z : ValueRange-F Cast Dimension Expr Pattern PatternItem Select SliceSize ValueRange) → W.range_step (map-ValueRange Cast Dimension Expr Pattern PatternItem Select SliceSize ValueRange Bool Bool Bool Bool Bool Bool Bool Bool cast_written dimension_written is_written pattern_written item_written select_written slice_written range_written z) ≡ true → AllWritten (range_layer z)
range-by (ValueRange-F.«ValueRange::Value» v) w = (w, tt)
range-by (ValueRange-F.«ValueRange::Range» opening low colon high closing) w = two low high w

range : (x : ValueRange) → range_written x ≡ true → AllWritten (range_layer (out-ValueRange x))
range x w = range-by (out-ValueRange x) (sym (fold_out-ValueRange Bool Bool Bool Bool Bool Bool Bool Bool W.cast_step W.dimension_step W.expr_step W.pattern_step W.item_step W.select_step W.slice_step W.range_step x) ∙ w)

ranges : (xs : List ValueRange) → all (map range_written xs) ≡ true → AllWritten (in_ranges xs)
ranges [] w = tt
ranges (x ∷ xs) w =
    written-append (range_layer (out-ValueRange x)) (in_ranges xs) (range x (and-left (range_written x) (all (map range_written xs)) w)) (ranges xs (and-right (range_written x) (all (map range_written xs)) w))

dimension-by : (z : Dimension-F Cast Dimension Expr Pattern PatternItem Select SliceSize ValueRange) → W.dimension_step (map-Dimension Cast Dimension Expr Pattern PatternItem Select SliceSize ValueRange Bool Bool Bool Bool Bool Bool Bool Bool cast_written dimension_written is_written pattern_written item_written select_written slice_written range_written z) ≡ true → AllWritten (dimension_layer z)
dimension-by (Dimension-F.Size opening size closing) w = (w, tt)
dimension-by (Dimension-F.«Dimension::Range» opening left colon right closing) w = two left right w

dimension : (x : Dimension) → dimension_written x ≡ true → AllWritten (dimension_layer (out-Dimension x))
dimension x w = dimension-by (out-Dimension x) (sym (fold_out-Dimension Bool Bool Bool Bool Bool Bool Bool Bool W.cast_step W.dimension_step W.expr_step W.pattern_step W.item_step W.select_step W.slice_step W.range_step x) ∙ w)

dimensions : (xs : List Dimension) → all (map dimension_written xs) ≡ true → AllWritten (in_dimensions xs)
dimensions [] w = tt
dimensions (x ∷ xs) w =
    written-append (dimension_layer (out-Dimension x)) (in_dimensions xs) (dimension x (and-left (dimension_written x) (all (map dimension_written xs)) w)) (dimensions xs (and-right (dimension_written x) (all (map dimension_written xs)) w))

select-by : (z : Select-F Cast Dimension Expr Pattern PatternItem Select SliceSize ValueRange) → W.select_step (map-Select Cast Dimension Expr Pattern PatternItem Select SliceSize ValueRange Bool Bool Bool Bool Bool Bool Bool Bool cast_written dimension_written is_written pattern_written item_written select_written slice_written range_written z) ≡ true → AllWritten (select_layer z)
select-by (Select-F.Member dot name) w = tt
select-by (Select-F.Index opening index closing) w = (w, tt)
select-by (Select-F.Part opening left operator at right closing) w = two left right w

select : (x : Select) → select_written x ≡ true → AllWritten (select_layer (out-Select x))
select x w = select-by (out-Select x) (sym (fold_out-Select Bool Bool Bool Bool Bool Bool Bool Bool W.cast_step W.dimension_step W.expr_step W.pattern_step W.item_step W.select_step W.slice_step W.range_step x) ∙ w)

selects : (xs : List Select) → all (map select_written xs) ≡ true → AllWritten (in_selects xs)
selects [] w = tt
selects (x ∷ xs) w =
    written-append (select_layer (out-Select x)) (in_selects xs) (select x (and-left (select_written x) (all (map select_written xs)) w)) (selects xs (and-right (select_written x) (all (map select_written xs)) w))

item-by : (z : PatternItem-F Cast Dimension Expr Pattern PatternItem Select SliceSize ValueRange) → W.item_step (map-PatternItem Cast Dimension Expr Pattern PatternItem Select SliceSize ValueRange Bool Bool Bool Bool Bool Bool Bool Bool cast_written dimension_written is_written pattern_written item_written select_written slice_written range_written z) ≡ true → AllWritten (item_layer z)
item-by (PatternItem-F.Default keyword colon value) w = (w, tt)
item-by (PatternItem-F.Keyed key colon value) w = two key value w
item-by (PatternItem-F.«PatternItem::Value» value) w = (w, tt)

item : (x : PatternItem) → item_written x ≡ true → AllWritten (item_layer (out-PatternItem x))
item x w = item-by (out-PatternItem x) (sym (fold_out-PatternItem Bool Bool Bool Bool Bool Bool Bool Bool W.cast_step W.dimension_step W.expr_step W.pattern_step W.item_step W.select_step W.slice_step W.range_step x) ∙ w)

items : (xs : List PatternItem) → all (map item_written xs) ≡ true → AllWritten (flat_map in_item xs)
items [] w = tt
items (x ∷ xs) w =
    written-append (item_layer (out-PatternItem x)) (flat_map in_item xs) (item x (and-left (item_written x) (all (map item_written xs)) w)) (items xs (and-right (item_written x) (all (map item_written xs)) w))

pattern-by : (z : Pattern-F Cast Dimension Expr Pattern PatternItem Select SliceSize ValueRange) → W.pattern_step (map-Pattern Cast Dimension Expr Pattern PatternItem Select SliceSize ValueRange Bool Bool Bool Bool Bool Bool Bool Bool cast_written dimension_written is_written pattern_written item_written select_written slice_written range_written z) ≡ true → AllWritten (pattern_layer z)
pattern-by (Pattern-F.Items is) w = items is w
pattern-by (Pattern-F.«Pattern::Replication» times opening items closing) w = (and-left (is_written times) (all (map is_written items)) w, exprs items (and-right (is_written times) (all (map is_written items)) w))

pattern : (x : Pattern) → pattern_written x ≡ true → AllWritten (pattern_layer (out-Pattern x))
pattern x w = pattern-by (out-Pattern x) (sym (fold_out-Pattern Bool Bool Bool Bool Bool Bool Bool Bool W.cast_step W.dimension_step W.expr_step W.pattern_step W.item_step W.select_step W.slice_step W.range_step x) ∙ w)

cast-by : (z : Cast-F Cast Dimension Expr Pattern PatternItem Select SliceSize ValueRange) → W.cast_step (map-Cast Cast Dimension Expr Pattern PatternItem Select SliceSize ValueRange Bool Bool Bool Bool Bool Bool Bool Bool cast_written dimension_written is_written pattern_written item_written select_written slice_written range_written z) ≡ true → AllWritten (cast_layer z)
cast-by (Cast-F.«Cast::Value» tick opening value closing) w = (w, tt)
cast-by (Cast-F.«Cast::Pattern» tick opening p closing) w = pattern p w

cast : (x : Cast) → cast_written x ≡ true → AllWritten (cast_layer (out-Cast x))
cast x w = cast-by (out-Cast x) (sym (fold_out-Cast Bool Bool Bool Bool Bool Bool Bool Bool W.cast_step W.dimension_step W.expr_step W.pattern_step W.item_step W.select_step W.slice_step W.range_step x) ∙ w)

slice-by : (z : SliceSize-F Cast Dimension Expr Pattern PatternItem Select SliceSize ValueRange) → W.slice_step (map-SliceSize Cast Dimension Expr Pattern PatternItem Select SliceSize ValueRange Bool Bool Bool Bool Bool Bool Bool Bool cast_written dimension_written is_written pattern_written item_written select_written slice_written range_written z) ≡ true → AllWritten (slice_layer z)
slice-by (SliceSize-F.«SliceSize::Decimal» digits) w = tt
slice-by (SliceSize-F.Keyword of) w = tt
slice-by (SliceSize-F.«SliceSize::Name» of) w = tt
slice-by (SliceSize-F.«SliceSize::Parenthesized» opening value closing) w = (w, tt)

slice : (x : SliceSize) → slice_written x ≡ true → AllWritten (slice_layer (out-SliceSize x))
slice x w = slice-by (out-SliceSize x) (sym (fold_out-SliceSize Bool Bool Bool Bool Bool Bool Bool Bool W.cast_step W.dimension_step W.expr_step W.pattern_step W.item_step W.select_step W.slice_step W.range_step x) ∙ w)

abbrev type_layer : Expr-F Cast Dimension Expr Pattern PatternItem Select SliceSize ValueRange → List Expr
type_layer z = elim z [
  | Expr-F.Type of packed cast ↦ uncast cast (in_dimensions packed)
  | Expr-F.«Expr::Name» of selects cast ↦ uncast cast (in_selects selects)
  | _ ↦ []
]

type-by : (z : Expr-F Cast Dimension Expr Pattern PatternItem Select SliceSize ValueRange) → W.expr_step (map-Expr Cast Dimension Expr Pattern PatternItem Select SliceSize ValueRange Bool Bool Bool Bool Bool Bool Bool Bool cast_written dimension_written is_written pattern_written item_written select_written slice_written range_written z) ≡ true → AllWritten (type_layer z)
type-by (Expr-F.Type of ds None) w = dimensions ds (and-left (all (map dimension_written ds)) true w)
type-by (Expr-F.Type of ds (Some c)) w = tt
type-by (Expr-F.«Expr::Name» of ss None) w = selects ss (and-left (all (map select_written ss)) true w)
type-by (Expr-F.«Expr::Name» of ss (Some c)) w = tt
type-by (Expr-F.Conditional test question first colon second) w = tt
type-by (Expr-F.Binary left operator at right) w = tt
type-by (Expr-F.Inside value keyword opening rs closing) w = tt
type-by (Expr-F.Unary operator at operand) w = tt
type-by (Expr-F.«Expr::Decimal» digits) w = tt
type-by (Expr-F.Sized size digits) w = tt
type-by (Expr-F.SizeCast size c) w = tt
type-by (Expr-F.Based digits) w = tt
type-by (Expr-F.Fill digit) w = tt
type-by (Expr-F.«Expr::Parenthesized» opening value closing c) w = tt
type-by (Expr-F.«Expr::Replication» opening times inner_opening es inner_closing closing) w = tt
type-by (Expr-F.Concatenation opening es closing) w = tt
type-by (Expr-F.Stream opening operator at z inner_opening es inner_closing closing) w = tt
type-by (Expr-F.«Expr::Pattern» tick opening p closing) w = tt
type-by (Expr-F.SigningCast signing c) w = tt
type-by (Expr-F.SystemCall name opening argument closing) w = tt
type-by (Expr-F.Call of opening es closing c) w = tt

type-written : (e : Expr) → is_written e ≡ true → AllWritten (in_type e)
type-written e w = type-by (out-Expr e) (sym (fold_out-Expr Bool Bool Bool Bool Bool Bool Bool Bool W.cast_step W.dimension_step W.expr_step W.pattern_step W.item_step W.select_step W.slice_step W.range_step e) ∙ w)

written-by : (z : Expr-F Cast Dimension Expr Pattern PatternItem Select SliceSize ValueRange) → W.expr_step (map-Expr Cast Dimension Expr Pattern PatternItem Select SliceSize ValueRange Bool Bool Bool Bool Bool Bool Bool Bool cast_written dimension_written is_written pattern_written item_written select_written slice_written range_written z) ≡ true → AllWritten (children_in z)
written-by (Expr-F.Conditional test question first colon second) w =
    (and-left (is_written test) (is_written first && is_written second) w, two first second (and-right (is_written test) (is_written first && is_written second) w))
written-by (Expr-F.Binary left operator at right) w = two left right w
written-by (Expr-F.Inside value keyword opening rs closing) w = (and-left (is_written value) (all (map range_written rs)) w, ranges rs (and-right (is_written value) (all (map range_written rs)) w))
written-by (Expr-F.Unary operator at operand) w = (w, tt)
written-by (Expr-F.«Expr::Decimal» digits) w = tt
written-by (Expr-F.Sized size digits) w = tt
written-by (Expr-F.SizeCast size c) w = cast c w
written-by (Expr-F.Based digits) w = tt
written-by (Expr-F.Fill digit) w = tt
written-by (Expr-F.«Expr::Parenthesized» opening value closing None) w = (and-left (is_written value) true w, tt)
written-by (Expr-F.«Expr::Parenthesized» opening value closing (Some c)) w = (and-left (is_written value) (cast_written c) w, cast c (and-right (is_written value) (cast_written c) w))
written-by (Expr-F.«Expr::Replication» opening times inner_opening es inner_closing closing) w =
    let these = some_and_all (map is_written es) in
    (and-left (is_written times) these w, some-exprs es (and-right (is_written times) these w))
written-by (Expr-F.Concatenation opening es closing) w = some-exprs es w
written-by (Expr-F.Stream opening operator at None inner_opening es inner_closing closing) w = some-exprs es (and-right true (some_and_all (map is_written es)) w)
written-by (Expr-F.Stream opening operator at (Some z) inner_opening es inner_closing closing) w =
    let these = some_and_all (map is_written es) in
    written-append (slice_layer (out-SliceSize z)) es (slice z (and-left (slice_written z) these w)) (some-exprs es (and-right (slice_written z) these w))
written-by (Expr-F.«Expr::Pattern» tick opening p closing) w = pattern p w
written-by (Expr-F.Type of ds None) w = let these = all (map dimension_written ds) in written-append (in_dimensions ds) [] (dimensions ds (and-left these true w)) tt
written-by (Expr-F.Type of ds (Some c)) w =
    let these = all (map dimension_written ds) in
    written-append (in_dimensions ds) (in_cast c) (dimensions ds (and-left these (cast_written c) w)) (cast c (and-right these (cast_written c) w))
written-by (Expr-F.SigningCast signing c) w = cast c w
written-by (Expr-F.SystemCall name opening argument closing) w = (w, type-written argument w)
written-by (Expr-F.Call of opening es closing None) w = let these = all (map is_written es) in written-append es [] (exprs es (and-left these true w)) tt
written-by (Expr-F.Call of opening es closing (Some c)) w =
    let these = all (map is_written es) in
    written-append es (in_cast c) (exprs es (and-left these (cast_written c) w)) (cast c (and-right these (cast_written c) w))
written-by (Expr-F.«Expr::Name» of ss None) w = let these = all (map select_written ss) in written-append (in_selects ss) [] (selects ss (and-left these true w)) tt
written-by (Expr-F.«Expr::Name» of ss (Some c)) w =
    let these = all (map select_written ss) in
    written-append (in_selects ss) (in_cast c) (selects ss (and-left these (cast_written c) w)) (cast c (and-right these (cast_written c) w))

pub children-written : (e : Expr) → is_written e ≡ true → AllWritten (children e)
children-written e w = written-by (out-Expr e) (sym (fold_out-Expr Bool Bool Bool Bool Bool Bool Bool Bool W.cast_step W.dimension_step W.expr_step W.pattern_step W.item_step W.select_step W.slice_step W.range_step e) ∙ w)
