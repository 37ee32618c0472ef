-- An expression by its form: what its parts mean makes what it means.
use Rattle.sv_tree.specs.declared.expressions.Cast.{Cast}
use Rattle.sv_tree.specs.declared.expressions.Dimension.{Dimension}
use Rattle.sv_tree.specs.declared.expressions.Expr.{Expr, Expr-F, map-Expr}
use Rattle.sv_tree.specs.declared.expressions.Pattern.{Pattern}
use Rattle.sv_tree.specs.declared.expressions.PatternItem.{PatternItem, fold-PatternItem}
use Rattle.sv_tree.specs.declared.expressions.Select.{Select}
use Rattle.sv_tree.specs.declared.expressions.SliceSize.{SliceSize}
use Rattle.sv_tree.specs.declared.expressions.ValueRange.{ValueRange}
use Rattle.expr_type.specs.Expressions as E
use Rattle.expr_type.specs.Expressions.{CastMeaning, DimensionMeaning, ItemMeaning, Meaning, PatternMeaning, RangeMeaning, SliceMeaning, dimension_meaning, meaning, select_meaning, slice_meaning}
use Rattle.expr_type.specs.Forms.{SelectMeaning}
use Rattle.typing_operators.specs.TypingValues.{cast_meaning, pattern_meaning, range_meaning}

abbrev pub Level : Type 0
Level = Expr-F Cast Dimension Expr Pattern PatternItem Select SliceSize ValueRange

abbrev pub item_meaning : PatternItem → ItemMeaning
item_meaning = fold-PatternItem CastMeaning DimensionMeaning Meaning PatternMeaning ItemMeaning SelectMeaning SliceMeaning RangeMeaning E.cast_step E.dimension_step E.expr_step E.pattern_step E.pattern_item_step E.select_step E.slice_size_step E.value_range_step

abbrev pub meant : Level → Meaning
meant z = E.expr_step (map-Expr Cast Dimension Expr Pattern PatternItem Select SliceSize ValueRange CastMeaning DimensionMeaning Meaning PatternMeaning ItemMeaning SelectMeaning SliceMeaning RangeMeaning cast_meaning dimension_meaning meaning pattern_meaning item_meaning select_meaning slice_meaning range_meaning z)
