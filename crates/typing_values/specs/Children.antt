-- The expressions that stand in parts of expressions, in the order of the text.
use Rattle.std.specs.Prelude.{List, [], ◌∷◌, flat_map, Option, Some, None}
use Rattle.sv_tree.specs.declared.expressions.Cast.{Cast, Cast-F, out-Cast}
use Rattle.sv_tree.specs.declared.expressions.Dimension.{Dimension, Dimension-F, out-Dimension}
use Rattle.sv_tree.specs.declared.expressions.Expr.{Expr}
use Rattle.sv_tree.specs.declared.expressions.Pattern.{Pattern, Pattern-F, out-Pattern}
use Rattle.sv_tree.specs.declared.expressions.PatternItem.{PatternItem, PatternItem-F, out-PatternItem}
use Rattle.sv_tree.specs.declared.expressions.Select.{Select, Select-F, out-Select}
use Rattle.sv_tree.specs.declared.expressions.SliceSize.{SliceSize, SliceSize-F, out-SliceSize}
use Rattle.sv_tree.specs.declared.expressions.ValueRange.{ValueRange, ValueRange-F, out-ValueRange}

abbrev pub in_range : ValueRange → List Expr
in_range r = elim (out-ValueRange r) [
  | ValueRange-F.«ValueRange::Value» v ↦ v ∷ []
  | ValueRange-F.«ValueRange::Range» opening low colon high closing ↦ low ∷ high ∷ []
]

abbrev pub in_ranges : List ValueRange → List Expr
in_ranges rs = flat_map in_range rs

abbrev pub in_dimension : Dimension → List Expr
in_dimension d = elim (out-Dimension d) [
  | Dimension-F.Size opening size closing ↦ size ∷ []
  | Dimension-F.«Dimension::Range» opening left colon right closing ↦ left ∷ right ∷ []
]

abbrev pub in_dimensions : List Dimension → List Expr
in_dimensions ds = flat_map in_dimension ds

abbrev pub in_select : Select → List Expr
in_select s = elim (out-Select s) [
  | Select-F.Member dot name ↦ []
  | Select-F.Index opening index closing ↦ index ∷ []
  | Select-F.Part opening left operator at right closing ↦ left ∷ right ∷ []
]

abbrev pub in_selects : List Select → List Expr
in_selects ss = flat_map in_select ss

abbrev pub in_item : PatternItem → List Expr
in_item i = elim (out-PatternItem i) [
  | PatternItem-F.Default keyword colon value ↦ value ∷ []
  | PatternItem-F.Keyed key colon value ↦ key ∷ value ∷ []
  | PatternItem-F.«PatternItem::Value» value ↦ value ∷ []
]

abbrev pub in_pattern : Pattern → List Expr
in_pattern p = elim (out-Pattern p) [
  | Pattern-F.Items items ↦ flat_map in_item items
  | Pattern-F.«Pattern::Replication» times opening items closing ↦ times ∷ items
]

abbrev pub in_cast : Cast → List Expr
in_cast c = elim (out-Cast c) [
  | Cast-F.«Cast::Value» tick opening value closing ↦ value ∷ []
  | Cast-F.«Cast::Pattern» tick opening pattern closing ↦ in_pattern pattern
]

abbrev pub in_slice : Option SliceSize → List Expr
in_slice None = []
in_slice (Some z) = elim (out-SliceSize z) [
  | SliceSize-F.«SliceSize::Decimal» digits ↦ []
  | SliceSize-F.Keyword of ↦ []
  | SliceSize-F.«SliceSize::Name» of ↦ []
  | SliceSize-F.«SliceSize::Parenthesized» opening value closing ↦ value ∷ []
]
