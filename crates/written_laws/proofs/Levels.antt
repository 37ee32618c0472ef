-- What is written, level by level.
use Rattle.std.proofs.Common.{◌≡◌, Bool, true, ◌&&◌, map, rules, sym, ap, ◌∙◌}
use Rattle.sv_tree.specs.declared.expressions.Cast.{Cast, Cast-F, roll-Cast, map-Cast, fold-roll-Cast}
use Rattle.sv_tree.specs.declared.expressions.Dimension.{Dimension, Dimension-F, roll-Dimension, map-Dimension, fold-roll-Dimension}
use Rattle.sv_tree.specs.declared.expressions.Expr.{Expr, Expr-F, roll-Expr, map-Expr, fold-roll-Expr}
use Rattle.sv_tree.specs.declared.expressions.Pattern.{Pattern, Pattern-F, roll-Pattern, map-Pattern, fold-roll-Pattern}
use Rattle.sv_tree.specs.declared.expressions.PatternItem.{PatternItem, PatternItem-F, roll-PatternItem, map-PatternItem, fold-roll-PatternItem}
use Rattle.sv_tree.specs.declared.expressions.Select.{Select, Select-F, roll-Select, map-Select, fold-roll-Select}
use Rattle.sv_tree.specs.declared.expressions.SliceSize.{SliceSize, SliceSize-F, roll-SliceSize, map-SliceSize, fold-roll-SliceSize}
use Rattle.sv_tree.specs.declared.expressions.ValueRange.{ValueRange, ValueRange-F, roll-ValueRange, map-ValueRange, fold-roll-ValueRange}
use Rattle.sv_tree.specs.declared.statements.Lvalue.{Lvalue, Lvalue-F, roll-Lvalue, map-Lvalue, fold-roll-Lvalue}
use Rattle.sv_tree.specs.declared.types.Member.{Member, fold-Member}
use Rattle.sv_tree.specs.declared.types.TypeText.{TypeText, TypeText-F, roll-TypeText, map-TypeText, fold-roll-TypeText, the_lemmas}
use Rattle.typing_walks.specs.Written as W
use Rattle.typing_walks.specs.Written.{some_and_all, cast_written, dimension_written, is_written, pattern_written, item_written, select_written, slice_written, range_written}
use Rattle.typing_walks.specs.WrittenTypes as T
use Rattle.typing_walks.specs.WrittenTypes.{name_written, type_written}
use Rattle.stmt_walks.specs.Written as L
use Rattle.stmt_walks.specs.Written.{lvalue_written}

-- expressions and their parts
pub cast-is : {e : Cast} (z : Cast-F Cast Dimension Expr Pattern PatternItem Select SliceSize ValueRange) → roll-Cast z ≡ e
    → W.cast_step (map-Cast Cast Dimension Expr Pattern PatternItem Select SliceSize ValueRange Bool Bool Bool Bool Bool Bool Bool Bool cast_written dimension_written is_written pattern_written item_written select_written slice_written range_written z) ≡ true → cast_written e ≡ true
cast-is z r w = ap cast_written (sym r) ∙ fold-roll-Cast Bool Bool Bool Bool Bool Bool Bool Bool W.cast_step W.dimension_step W.expr_step W.pattern_step W.item_step W.select_step W.slice_step W.range_step z ∙ w

pub dimension-is : {e : Dimension} (z : Dimension-F Cast Dimension Expr Pattern PatternItem Select SliceSize ValueRange) → roll-Dimension z ≡ e
    → W.dimension_step (map-Dimension Cast Dimension Expr Pattern PatternItem Select SliceSize ValueRange Bool Bool Bool Bool Bool Bool Bool Bool cast_written dimension_written is_written pattern_written item_written select_written slice_written range_written z) ≡ true → dimension_written e ≡ true
dimension-is z r w = ap dimension_written (sym r) ∙ fold-roll-Dimension Bool Bool Bool Bool Bool Bool Bool Bool W.cast_step W.dimension_step W.expr_step W.pattern_step W.item_step W.select_step W.slice_step W.range_step z ∙ w

pub expr-is : {e : Expr} (z : Expr-F Cast Dimension Expr Pattern PatternItem Select SliceSize ValueRange) → roll-Expr z ≡ e
    → W.expr_step (map-Expr Cast Dimension Expr Pattern PatternItem Select SliceSize ValueRange Bool Bool Bool Bool Bool Bool Bool Bool cast_written dimension_written is_written pattern_written item_written select_written slice_written range_written z) ≡ true → is_written e ≡ true
expr-is z r w = ap is_written (sym r) ∙ fold-roll-Expr Bool Bool Bool Bool Bool Bool Bool Bool W.cast_step W.dimension_step W.expr_step W.pattern_step W.item_step W.select_step W.slice_step W.range_step z ∙ w

pub pattern-is : {e : Pattern} (z : Pattern-F Cast Dimension Expr Pattern PatternItem Select SliceSize ValueRange) → roll-Pattern z ≡ e
    → W.pattern_step (map-Pattern Cast Dimension Expr Pattern PatternItem Select SliceSize ValueRange Bool Bool Bool Bool Bool Bool Bool Bool cast_written dimension_written is_written pattern_written item_written select_written slice_written range_written z) ≡ true → pattern_written e ≡ true
pattern-is z r w = ap pattern_written (sym r) ∙ fold-roll-Pattern Bool Bool Bool Bool Bool Bool Bool Bool W.cast_step W.dimension_step W.expr_step W.pattern_step W.item_step W.select_step W.slice_step W.range_step z ∙ w

pub pattern-item-is : {e : PatternItem} (z : PatternItem-F Cast Dimension Expr Pattern PatternItem Select SliceSize ValueRange) → roll-PatternItem z ≡ e
    → W.item_step (map-PatternItem Cast Dimension Expr Pattern PatternItem Select SliceSize ValueRange Bool Bool Bool Bool Bool Bool Bool Bool cast_written dimension_written is_written pattern_written item_written select_written slice_written range_written z) ≡ true → item_written e ≡ true
pattern-item-is z r w = ap item_written (sym r) ∙ fold-roll-PatternItem Bool Bool Bool Bool Bool Bool Bool Bool W.cast_step W.dimension_step W.expr_step W.pattern_step W.item_step W.select_step W.slice_step W.range_step z ∙ w

pub select-is : {e : Select} (z : Select-F Cast Dimension Expr Pattern PatternItem Select SliceSize ValueRange) → roll-Select z ≡ e
    → W.select_step (map-Select Cast Dimension Expr Pattern PatternItem Select SliceSize ValueRange Bool Bool Bool Bool Bool Bool Bool Bool cast_written dimension_written is_written pattern_written item_written select_written slice_written range_written z) ≡ true → select_written e ≡ true
select-is z r w = ap select_written (sym r) ∙ fold-roll-Select Bool Bool Bool Bool Bool Bool Bool Bool W.cast_step W.dimension_step W.expr_step W.pattern_step W.item_step W.select_step W.slice_step W.range_step z ∙ w

pub slice-is : {e : SliceSize} (z : SliceSize-F Cast Dimension Expr Pattern PatternItem Select SliceSize ValueRange) → roll-SliceSize z ≡ e
    → W.slice_step (map-SliceSize Cast Dimension Expr Pattern PatternItem Select SliceSize ValueRange Bool Bool Bool Bool Bool Bool Bool Bool cast_written dimension_written is_written pattern_written item_written select_written slice_written range_written z) ≡ true → slice_written e ≡ true
slice-is z r w = ap slice_written (sym r) ∙ fold-roll-SliceSize Bool Bool Bool Bool Bool Bool Bool Bool W.cast_step W.dimension_step W.expr_step W.pattern_step W.item_step W.select_step W.slice_step W.range_step z ∙ w

pub range-is : {e : ValueRange} (z : ValueRange-F Cast Dimension Expr Pattern PatternItem Select SliceSize ValueRange) → roll-ValueRange z ≡ e
    → W.range_step (map-ValueRange Cast Dimension Expr Pattern PatternItem Select SliceSize ValueRange Bool Bool Bool Bool Bool Bool Bool Bool cast_written dimension_written is_written pattern_written item_written select_written slice_written range_written z) ≡ true → range_written e ≡ true
range-is z r w = ap range_written (sym r) ∙ fold-roll-ValueRange Bool Bool Bool Bool Bool Bool Bool Bool W.cast_step W.dimension_step W.expr_step W.pattern_step W.item_step W.select_step W.slice_step W.range_step z ∙ w

-- types
abbrev pub member_written : Member → Bool
member_written = fold-Member Bool Bool T.type_step T.member_step

pub type-is : {t : TypeText} (z : TypeText-F TypeText Member) → roll-TypeText z ≡ t
    → T.type_step (map-TypeText TypeText Member Bool Bool type_written member_written z) ≡ true → type_written t ≡ true
type-is z r w = ap type_written (sym r) ∙ fold-roll-TypeText Bool Bool T.type_step T.member_step z ∙ w

pub member-level : (m : Member) → member_written m ≡ (type_written m.of && some_and_all (map name_written m.names))
member-level m = search (rules, the_lemmas)

-- targets
pub lvalue-is : {l : Lvalue} (z : Lvalue-F Lvalue) → roll-Lvalue z ≡ l → L.lvalue_step (map-Lvalue Lvalue Bool lvalue_written z) ≡ true → lvalue_written l ≡ true
lvalue-is z r w = ap lvalue_written (sym r) ∙ fold-roll-Lvalue Bool L.lvalue_step z ∙ w
