-- An expression means what its form makes of what its parts mean.
use Rattle.std.proofs.Common.{◌≡◌, List, ap, sym, ◌∙◌, subst}
use Rattle.std.specs.Prelude.{Result}
use Rattle.sv_tree.specs.declared.expressions.Expr.{Expr, fold_out-Expr, out-Expr, out-roll-Expr, roll-Expr}
use Rattle.sv_types.specs.declared.statement.Function.{Function}
use Rattle.expr_type.specs.declared.halt.Halt.{Halt}
use Rattle.expr_type.specs.Expressions as E
use Rattle.expr_type.specs.Expressions.{CastMeaning, DimensionMeaning, ItemMeaning, Meaning, PatternMeaning, RangeMeaning, SliceMeaning, meaning}
use Rattle.expr_type.specs.Forms.{SelectMeaning}
use Rattle.expr_type.specs.Names.{Context}
use Rattle.expr_type.specs.Operands.{Operand}
use Rattle.typing_steps.specs.Steps.{TypesTo}
use Rattle.typing_exprs.specs.Levels.{Level, meant}

pub meant-by : (k : Context) (e : Expr) (z : Level) (fs gs : List Function) (r : Result Operand Halt) → e ≡ roll-Expr z → TypesTo r ((meant z).typed k fs) gs → TypesTo r ((meaning e).typed k fs) gs
meant-by k e z fs gs r is h =
    let same = fold_out-Expr CastMeaning DimensionMeaning Meaning PatternMeaning ItemMeaning SelectMeaning SliceMeaning RangeMeaning E.cast_step E.dimension_step E.expr_step E.pattern_step E.pattern_item_step E.select_step E.slice_size_step E.value_range_step e ∙ ap meant (ap out-Expr is ∙ out-roll-Expr z) in
    subst (λ (m : Meaning). TypesTo r (m.typed k fs) gs) (sym same) h
