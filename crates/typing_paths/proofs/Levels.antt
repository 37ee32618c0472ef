-- Dimensions and selects, one level at a time.
use Rattle.std.proofs.Common.{◌≡◌, ℕ, List, rules, sym, ap, ◌∙◌, subst}
use Rattle.std.specs.Prelude.{Result}
use Rattle.sv_tree.specs.declared.expressions.Dimension.{Dimension, Dimension-F, the_lemmas}
use Rattle.sv_tree.specs.declared.expressions.Dimension.TheVariants as D
use Rattle.sv_tree.specs.declared.expressions.Expr.{Expr}
use Rattle.sv_tree.specs.declared.expressions.Select.{Select, Select-F, the_lemmas as select_lemmas}
use Rattle.sv_tree.specs.declared.expressions.Select.TheVariants as V
use Rattle.sv_tree.specs.declared.operators.PartOperator.{PartOperator}
use Rattle.sv_tree.specs.declared.operators.PartOperator.TheVariants as W
use Rattle.sv_types.specs.declared.statement.Function.{Function}
use Rattle.expr_type.specs.declared.halt.Halt.{Halt}
use Rattle.expr_type.specs.Expressions as E
use Rattle.expr_type.specs.Expressions.{DimensionMeaning, dimension_meaning, meaning, select_meaning}
use Rattle.expr_type.specs.Forms.{SelectMeaning}
use Rattle.expr_type.specs.KeywordTypes.{Dim}
use Rattle.expr_type.specs.Names.{Context}
use Rattle.typing_steps.specs.Steps.{TypesTo}
use Rattle.typing_paths.specs.Dimensions.{dimension_of, range_of, select_dimension_of}

range-level : (opening colon closing : ℕ) (left right : Expr)
    → dimension_meaning (D.Range opening left colon right closing) ≡ E.dimension_step (Dimension-F.«Dimension::Range» opening (meaning left) colon (meaning right) closing)
range-level opening colon closing left right = search (rules, the_lemmas)

pub by-range : (k : Context) (d : Dimension) (opening colon closing : ℕ) (left right : Expr) (r : Result Dim Halt) (fs gs : List Function)
    → d ≡ D.Range opening left colon right closing → TypesTo r (range_of k opening left right fs) gs → TypesTo r (dimension_of k d fs) gs
by-range k d opening colon closing left right r fs gs e h =
    subst (λ (m : DimensionMeaning). TypesTo r (m k fs) gs) (sym (ap dimension_meaning e ∙ range-level opening colon closing left right)) h

pub part-level : (opening at closing : ℕ) (operator : PartOperator) (left right : Expr)
    → select_meaning (V.Part opening left operator at right closing) ≡ E.select_step (Select-F.Part opening (meaning left) operator at (meaning right) closing)
part-level opening at closing operator left right = search (rules, select_lemmas)

pub selects-range : (k : Context) (s : Select) (operator : PartOperator) (opening at closing : ℕ) (left right : Expr) (r : Result Dim Halt) (fs gs : List Function)
    → s ≡ V.Part opening left operator at right closing → operator ≡ W.Range → TypesTo r (range_of k opening left right fs) gs → TypesTo r (select_dimension_of k s fs) gs
selects-range k s operator opening at closing left right r fs gs e o h =
    subst (λ (m : SelectMeaning). TypesTo r (m.dimension k fs) gs) (sym (ap select_meaning e ∙ part-level opening at closing operator left right))
    (subst (λ (p : PartOperator). TypesTo r (E.part_dimension p k opening (meaning left) (meaning right) fs) gs) (sym o) h)
