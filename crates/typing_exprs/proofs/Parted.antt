-- Selects of a name and arguments of a call have parts where the expression has.
use Rattle.std.proofs.Common.{◌≡◌, Bool, true, ℕ, List, [], ◌∷◌, ◌++◌, map, Option, Some, None, ap, sym, ◌∙◌, subst}
use Rattle.sv_tree.specs.declared.expressions.Cast.{Cast}
use Rattle.sv_tree.specs.declared.expressions.Dimension.{Dimension}
use Rattle.sv_tree.specs.declared.expressions.Expr.{Expr, Expr-F, fold_out-Expr, map-Expr, out-Expr, out-roll-Expr}
use Rattle.sv_tree.specs.declared.expressions.Expr.TheVariants as X
use Rattle.sv_tree.specs.declared.expressions.Pattern.{Pattern}
use Rattle.sv_tree.specs.declared.expressions.PatternItem.{PatternItem}
use Rattle.sv_tree.specs.declared.expressions.Select.{Select}
use Rattle.sv_tree.specs.declared.expressions.SliceSize.{SliceSize}
use Rattle.sv_tree.specs.declared.expressions.ValueRange.{ValueRange}
use Rattle.sv_tree.specs.declared.names.QualifiedName.{QualifiedName}
use Rattle.typing_fits.proofs.Full.{and-left}
use Rattle.typing_walks.specs.Written as W
use Rattle.typing_walks.specs.Written.{is_written, cast_written, dimension_written, pattern_written, item_written, select_written, slice_written, range_written}
use Rattle.typing_operators.specs.Children.{AllWritten, children_in, in_casts}
use Rattle.typing_operators.proofs.Written.{children-written}
use Rattle.typing_exprs.specs.Levels.{Level}

front-written : (xs ys : List Expr) → AllWritten (xs ++ ys) → AllWritten xs
front-written [] ys w = tt
front-written (x ∷ xs) ys w = (w.0, front-written xs ys w.1)

pub arguments-written : (e : Expr) (of : QualifiedName) (opening : ℕ) (es : List Expr) (closing : ℕ) (o : Option Cast) → e ≡ X.Call of opening es closing o → is_written e ≡ true → AllWritten es
arguments-written e of opening es closing o is w =
    let z : Level = Expr-F.Call of opening es closing o in
    front-written es (in_casts o) (subst (λ (y : Level). AllWritten (children_in y)) (ap out-Expr (is ∙ sym (X.rolls-Call of opening es closing o)) ∙ out-roll-Expr z) (children-written e w))

abbrev step : Level → Bool
step z = W.expr_step (map-Expr Cast Dimension Expr Pattern PatternItem Select SliceSize ValueRange Bool Bool Bool Bool Bool Bool Bool Bool cast_written dimension_written is_written pattern_written item_written select_written slice_written range_written z)

name-by : (of : QualifiedName) (ss : List Select) (o : Option Cast) → step (Expr-F.«Expr::Name» of ss o) ≡ true → W.all (map select_written ss) ≡ true
name-by of ss None w = and-left (W.all (map select_written ss)) true w
name-by of ss (Some c) w = and-left (W.all (map select_written ss)) (cast_written c) w

pub selects-written : (e : Expr) (of : QualifiedName) (ss : List Select) (o : Option Cast) → e ≡ X.Name of ss o → is_written e ≡ true → W.all (map select_written ss) ≡ true
selects-written e of ss o is w =
    let z : Level = Expr-F.«Expr::Name» of ss o in
    let same = fold_out-Expr Bool Bool Bool Bool Bool Bool Bool Bool W.cast_step W.dimension_step W.expr_step W.pattern_step W.item_step W.select_step W.slice_step W.range_step e ∙ ap step (ap out-Expr (is ∙ sym (X.rolls-Name of ss o)) ∙ out-roll-Expr z) in
    name-by of ss o (sym same ∙ w)
