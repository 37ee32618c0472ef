-- Expressions in targets that can be typed, where all that is written can be.
use Rattle.std.proofs.Common.{◌≡◌, Bool, true, ◌&&◌, List, [], ◌∷◌, ◌++◌, map, Some, None, refl, ap, sym, ◌∙◌, subst}
use Rattle.std.specs.Prelude.{Result}
use Rattle.sv_tree.specs.declared.expressions.Cast.{Cast}
use Rattle.sv_tree.specs.declared.expressions.Dimension.{Dimension}
use Rattle.sv_tree.specs.declared.expressions.Expr.{Expr, Expr-F, fold_out-Expr, map-Expr, out-roll-Expr, roll-Expr}
use Rattle.sv_tree.specs.declared.expressions.Pattern.{Pattern}
use Rattle.sv_tree.specs.declared.expressions.PatternItem.{PatternItem}
use Rattle.sv_tree.specs.declared.expressions.Select.{Select}
use Rattle.sv_tree.specs.declared.expressions.SliceSize.{SliceSize, SliceSize-F, fold_out-SliceSize, map-SliceSize, out-SliceSize}
use Rattle.sv_tree.specs.declared.expressions.ValueRange.{ValueRange}
use Rattle.expr_type.specs.declared.halt.Halt.{Halt}
use Rattle.expr_type.specs.Names.{Context}
use Rattle.expr_type.specs.Targets.{simple_name}
use Rattle.pattern_types.specs.declared.operand.Operand as O
use Rattle.typing_parts.specs.declared.known.Known.{Known}
use Rattle.typing_parts.specs.Typists.{AllCanType, CanType}
use Rattle.typing_values.specs.Children.{in_selects, in_slice}
use Rattle.typing_walks.specs.Written as W
use Rattle.typing_walks.specs.Written.{is_written, cast_written, dimension_written, pattern_written, item_written, select_written, slice_written, range_written}
use Rattle.typing_exprs.specs.WalkLaws.{AllWritten, children_in}
use Rattle.typing_exprs.proofs.WalkLaws.{children-written}
use Rattle.typing_exprs.specs.Levels.{Level}

module _ (R S : Type 0) (tree : R → Expr) (held : S → Known) (pre : R → S → Type 0) (post : R → S → Result O.Operand Halt → S → Type 0) (k : Context) where
  pub each-can : (es : List Expr) → ((e : Expr) → is_written e ≡ true → CanType R S tree held pre post k e) → AllWritten es → AllCanType R S tree held pre post k es
  each-can [] c w = tt
  each-can (e ∷ es) c w = (c e w.0, each-can es c w.1)

-- selects, as those behind a name
front-written : (xs ys : List Expr) → AllWritten (xs ++ ys) → AllWritten xs
front-written [] ys w = tt
front-written (x ∷ xs) ys w = (w.0, front-written xs ys w.1)

abbrev step : Level → Bool
step z = W.expr_step (map-Expr Cast Dimension Expr Pattern PatternItem Select SliceSize ValueRange Bool Bool Bool Bool Bool Bool Bool Bool cast_written dimension_written is_written pattern_written item_written select_written slice_written range_written z)

and-all : (b : Bool) → b ≡ true → (b && true) ≡ true
and-all b e = subst (λ (c : Bool). (c && true) ≡ true) (sym e) refl

pub selects-written : (ss : List Select) → W.all (map select_written ss) ≡ true → AllWritten (in_selects ss)
selects-written ss w =
    let z : Level = Expr-F.«Expr::Name» (simple_name 0) ss None in
    let same = fold_out-Expr Bool Bool Bool Bool Bool Bool Bool Bool W.cast_step W.dimension_step W.expr_step W.pattern_step W.item_step W.select_step W.slice_step W.range_step (roll-Expr z) ∙ ap step (out-roll-Expr z) in
    let all = children-written (roll-Expr z) (same ∙ and-all (W.all (map select_written ss)) w) in
    front-written (in_selects ss) [] (subst (λ (y : Level). AllWritten (children_in y)) (out-roll-Expr z) all)

-- a slice
abbrev slice_layer : SliceSize-F Cast Dimension Expr Pattern PatternItem Select SliceSize ValueRange → List Expr
slice_layer z = elim z [
  | SliceSize-F.«SliceSize::Decimal» digits ↦ []
  | SliceSize-F.Keyword of ↦ []
  | SliceSize-F.«SliceSize::Name» of ↦ []
  | SliceSize-F.«SliceSize::Parenthesized» opening value closing ↦ value ∷ []
]

slice-by : (z : SliceSize-F Cast Dimension Expr Pattern PatternItem Select SliceSize ValueRange) → W.slice_step (map-SliceSize Cast Dimension Expr Pattern PatternItem Select SliceSize ValueRange Bool Bool Bool Bool Bool Bool Bool Bool cast_written dimension_written is_written pattern_written item_written select_written slice_written range_written z) ≡ true → AllWritten (slice_layer z)
slice-by (SliceSize-F.«SliceSize::Decimal» digits) w = tt
slice-by (SliceSize-F.Keyword of) w = tt
slice-by (SliceSize-F.«SliceSize::Name» of) w = tt
slice-by (SliceSize-F.«SliceSize::Parenthesized» opening value closing) w = (w, tt)

pub slice-parts : (z : SliceSize) → slice_written z ≡ true → AllWritten (in_slice (Some z))
slice-parts z w = slice-by (out-SliceSize z) (sym (fold_out-SliceSize Bool Bool Bool Bool Bool Bool Bool Bool W.cast_step W.dimension_step W.expr_step W.pattern_step W.item_step W.select_step W.slice_step W.range_step z) ∙ w)
