-- Selects as they are written: one with a variable base has a bit.
use Rattle.std.proofs.Common.{◌≡◌, ℕ, true, false, List, [], ◌∷◌, map, sym, subst}
use Rattle.std.specs.Prelude.{pos, ◌^◌, ◌-ℤ◌, int_le}
use Rattle.sv_tree.specs.declared.operators.PartOperator.{PartOperator}
use Rattle.sv_tree.specs.declared.operators.PartOperator.TheVariants as W
use Rattle.sv_tree.specs.declared.expressions.Cast.{Cast}
use Rattle.sv_tree.specs.declared.expressions.Dimension.{Dimension}
use Rattle.sv_tree.specs.declared.expressions.Expr.{Expr}
use Rattle.sv_tree.specs.declared.expressions.Pattern.{Pattern}
use Rattle.sv_tree.specs.declared.expressions.PatternItem.{PatternItem}
use Rattle.sv_tree.specs.declared.expressions.Select.{Select, Select-F, out-Select, map-Select, fold-roll-Select, roll-out-Select}
use Rattle.sv_tree.specs.declared.expressions.SliceSize.{SliceSize}
use Rattle.sv_tree.specs.declared.expressions.ValueRange.{ValueRange}
use Rattle.expr_type.specs.declared.operand.Number.{Number}
use Rattle.expr_type.specs.declared.step.Step.TheVariants as T
use Rattle.expr_type.specs.Typings.{Typing, whole, by_functions}
use Rattle.expr_type.specs.Names.{Context, Source}
use Rattle.expr_type.specs.Operands.{Operand, constant_in, is_number_in}
use Rattle.expr_type.specs.Selects.{bound_in, width_in, index_in}
use Rattle.expr_type.specs.Forms.{SelectMeaning, steps}
use Rattle.expr_type.specs.Expressions as E
use Rattle.expr_type.specs.Expressions.{Meaning, CastMeaning, DimensionMeaning, PatternMeaning, ItemMeaning, SliceMeaning, RangeMeaning, meaning, dimension_meaning, select_meaning, slice_meaning}
use Rattle.typing_walks.proofs.Operands.{range-of}
use Rattle.typing_walks.proofs.Walk.{cast_meaning, pattern_meaning, item_meaning, range_meaning}
use Rattle.path_laws.proofs.Typings.{Gives, AllGive, Anything, anything, whole-gives, checked-gives, both-gives}
use Rattle.path_laws.proofs.Steps.{HasWidth}

abbrev IsWidth : Number → Type 0
IsWidth n = int_le (pos 1) n.number ≡ true

width-gives : (k : Source) (x : Typing Operand) → Gives IsWidth (width_in k x)
width-gives k x =
    checked-gives Anything IsWidth (constant_in k x) (λ v. by_functions (is_number_in k (pos 1) (pos (2 ^ 32) -ℤ pos 1) v)) (anything (constant_in k x))
    (λ v p fs n h. (range-of k (pos 1) (pos (2 ^ 32) -ℤ pos 1) v fs n h).0)

part-gives : (op : PartOperator) (k : Context) (opening : ℕ) (left right : Meaning) → Gives HasWidth (E.part_step op k opening left right)
part-gives W.Range k opening left right =
    both-gives Anything Anything HasWidth (bound_in k.source (left.typed k)) (bound_in k.source (right.typed k)) (λ l r. whole (T.Part opening l r)) (anything (bound_in k.source (left.typed k))) (anything (bound_in k.source (right.typed k)))
    (λ l r p q. whole-gives HasWidth (T.Part opening l r) tt)
part-gives W.Up k opening left right =
    both-gives Anything IsWidth HasWidth (index_in k.source (left.typed k)) (width_in k.source (right.typed k)) (λ i n. whole (T.Slide opening true i n)) (anything (index_in k.source (left.typed k))) (width-gives k.source (right.typed k))
    (λ i n p q. whole-gives HasWidth (T.Slide opening true i n) q)
part-gives W.Down k opening left right =
    both-gives Anything IsWidth HasWidth (index_in k.source (left.typed k)) (width_in k.source (right.typed k)) (λ i n. whole (T.Slide opening false i n)) (anything (index_in k.source (left.typed k))) (width-gives k.source (right.typed k))
    (λ i n p q. whole-gives HasWidth (T.Slide opening false i n) q)

abbrev WidthOf : SelectMeaning → Type 0
WidthOf s = (k : Context) → Gives HasWidth (s.step k)

step-gives : (x : Select-F CastMeaning DimensionMeaning Meaning PatternMeaning ItemMeaning SelectMeaning SliceMeaning RangeMeaning) → WidthOf (E.select_step x)
step-gives (Select-F.Member dot name) k = whole-gives HasWidth (T.Member name) tt
step-gives (Select-F.Index opening index closing) k =
    checked-gives Anything HasWidth (index_in k.source (index.typed k)) (λ v. whole (T.Index opening v)) (anything (index_in k.source (index.typed k))) (λ v p. whole-gives HasWidth (T.Index opening v) tt)
step-gives (Select-F.Part opening left op at right closing) k = part-gives op k opening left right

select-gives : (s : Select) → WidthOf (select_meaning s)
select-gives s =
    subst (λ x. WidthOf (select_meaning x)) (roll-out-Select s)
    (subst WidthOf (sym (fold-roll-Select CastMeaning DimensionMeaning Meaning PatternMeaning ItemMeaning SelectMeaning SliceMeaning RangeMeaning E.cast_step E.dimension_step E.expr_step E.pattern_step E.pattern_item_step E.select_step E.slice_size_step E.value_range_step (out-Select s)))
    (step-gives (meant (out-Select s))))
  where
    meant : Select-F Cast Dimension Expr Pattern PatternItem Select SliceSize ValueRange → Select-F CastMeaning DimensionMeaning Meaning PatternMeaning ItemMeaning SelectMeaning SliceMeaning RangeMeaning
    meant = map-Select Cast Dimension Expr Pattern PatternItem Select SliceSize ValueRange CastMeaning DimensionMeaning Meaning PatternMeaning ItemMeaning SelectMeaning SliceMeaning RangeMeaning cast_meaning dimension_meaning meaning pattern_meaning item_meaning select_meaning slice_meaning range_meaning

pub steps-give : (k : Context) (ss : List Select) → AllGive HasWidth (steps k (map select_meaning ss))
steps-give k [] = tt
steps-give k (s ∷ ss) = (select-gives s k, steps-give k ss)
