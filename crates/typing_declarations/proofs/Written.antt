-- In dimensions that are written each expression is.
use Rattle.std.proofs.Common.{◌≡◌, Bool, true, List, [], ◌∷◌, ◌++◌, map, sym, ◌∙◌}
use Rattle.std.specs.Prelude.{Result}
use Rattle.sv_tree.specs.declared.expressions.Cast.{Cast}
use Rattle.sv_tree.specs.declared.expressions.Dimension.{Dimension, Dimension-F, fold_out-Dimension, map-Dimension, out-Dimension}
use Rattle.sv_tree.specs.declared.expressions.Expr.{Expr}
use Rattle.sv_tree.specs.declared.expressions.Pattern.{Pattern}
use Rattle.sv_tree.specs.declared.expressions.PatternItem.{PatternItem}
use Rattle.sv_tree.specs.declared.expressions.Select.{Select}
use Rattle.sv_tree.specs.declared.expressions.SliceSize.{SliceSize}
use Rattle.sv_tree.specs.declared.expressions.ValueRange.{ValueRange}
use Rattle.expr_type.specs.declared.halt.Halt.{Halt}
use Rattle.expr_type.specs.Names.{Context}
use Rattle.pattern_types.specs.declared.operand.Operand as O
use Rattle.typing_fits.proofs.Full.{and-left, and-right}
use Rattle.typing_parts.specs.declared.known.Known.{Known}
use Rattle.typing_parts.specs.Typists.{AllCanType, CanType}
use Rattle.typing_values.specs.Children.{in_dimensions}
use Rattle.typing_walks.specs.Written as W
use Rattle.typing_walks.specs.Written.{all, is_written, cast_written, dimension_written, pattern_written, item_written, select_written, slice_written, range_written}
use Rattle.typing_walks.specs.WrittenTypes.{dims_written}

-- each expression of a list
abbrev AllWritten : List Expr → Type 0
AllWritten [] = Unit {0}
AllWritten (e ∷ es) = (is_written e ≡ true) × AllWritten es

written-append : (xs ys : List Expr) → AllWritten xs → AllWritten ys → AllWritten (xs ++ ys)
written-append [] ys p q = q
written-append (x ∷ xs) ys p q = (p.0, written-append xs ys p.1 q)

abbrev dimension_layer : Dimension-F Cast Dimension Expr Pattern PatternItem Select SliceSize ValueRange → List Expr
dimension_layer z = elim z [
  | Dimension-F.Size opening size closing ↦ size ∷ []
  | Dimension-F.«Dimension::Range» opening left colon right closing ↦ left ∷ right ∷ []
]

dimension-by : (z : Dimension-F Cast Dimension Expr Pattern PatternItem Select SliceSize ValueRange) → W.dimension_step (map-Dimension Cast Dimension Expr Pattern PatternItem Select SliceSize ValueRange Bool Bool Bool Bool Bool Bool Bool Bool cast_written dimension_written is_written pattern_written item_written select_written slice_written range_written z) ≡ true → AllWritten (dimension_layer z)
dimension-by (Dimension-F.Size opening size closing) w = (w, tt)
dimension-by (Dimension-F.«Dimension::Range» opening left colon right closing) w = (and-left (is_written left) (is_written right) w, (and-right (is_written left) (is_written right) w, tt))

dimension : (x : Dimension) → dimension_written x ≡ true → AllWritten (dimension_layer (out-Dimension x))
dimension x w = dimension-by (out-Dimension x) (sym (fold_out-Dimension Bool Bool Bool Bool Bool Bool Bool Bool W.cast_step W.dimension_step W.expr_step W.pattern_step W.item_step W.select_step W.slice_step W.range_step x) ∙ w)

dimensions : (xs : List Dimension) → dims_written xs ≡ true → AllWritten (in_dimensions xs)
dimensions [] w = tt
dimensions (x ∷ xs) w =
    written-append (dimension_layer (out-Dimension x)) (in_dimensions xs) (dimension x (and-left (dimension_written x) (all (map dimension_written xs)) w)) (dimensions xs (and-right (dimension_written x) (all (map dimension_written xs)) w))

-- so each can be typed where those that are written can
module _ (R S : Type 0) (tree : R → Expr) (held : S → Known) (pre : R → S → Type 0) (post : R → S → Result O.Operand Halt → S → Type 0) (k : Context) where
  all-can : (es : List Expr) → ((e : Expr) → is_written e ≡ true → CanType R S tree held pre post k e) → AllWritten es → AllCanType R S tree held pre post k es
  all-can [] c w = tt
  all-can (e ∷ es) c w = (c e w.0, all-can es c w.1)

  pub dimensions-can : (ds : List Dimension) → ((e : Expr) → is_written e ≡ true → CanType R S tree held pre post k e) → dims_written ds ≡ true → AllCanType R S tree held pre post k (in_dimensions ds)
  dimensions-can ds c w = all-can (in_dimensions ds) c (dimensions ds w)
