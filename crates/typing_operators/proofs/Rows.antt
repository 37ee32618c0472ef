-- Lists of expressions part by part.
use Rattle.std.proofs.Common.{◌≡◌, List, [], ◌∷◌, map, refl, sym, ap, subst}
use Rattle.std.specs.Prelude.{Result}
use Rattle.sv_tree.specs.declared.expressions.Expr.{Expr}
use Rattle.sv_types.specs.declared.expression.Expr as T
use Rattle.sv_types.specs.declared.statement.Function.{Function}
use Rattle.expr_type.specs.declared.halt.Halt.{Halt}
use Rattle.expr_type.specs.declared.operand.Valued.{Valued}
use Rattle.expr_type.specs.Expressions.{Meaning, meaning, part}
use Rattle.expr_type.specs.Forms.{streamed_part}
use Rattle.expr_type.specs.Names.{Context}
use Rattle.expr_type.specs.Typings.{Typing, all}
use Rattle.typing_steps.specs.Steps.{TypesTo}
use Rattle.typing_operators.specs.Lists.{expr_of, part_expr, parts_of, streamed_expr, streamed_parts_of}
use Rattle.typing_operators.proofs.Exprs.{exprs-type}

part-rows : (k : Context) (es : List Expr) → map expr_of (map (part k) (map meaning es)) ≡ map (part_expr k) es
part-rows k [] = refl
part-rows k (e ∷ es) = ap (λ (xs : List (Typing T.Expr)). part_expr k e ∷ xs) (part-rows k es)

pub parts-type : (k : Context) (es : List Expr) (fs gs : List Function) (r : Result (List T.Expr) Halt) → TypesTo r (all (map (part_expr k) es) fs) gs → TypesTo r (parts_of k es fs) gs
parts-type k es fs gs r h =
    exprs-type (map (part k) (map meaning es)) fs gs r (subst (λ (xs : List (Typing T.Expr)). TypesTo r (all xs fs) gs) (sym (part-rows k es)) h)

abbrev streamed : Context → Meaning → Typing Valued
streamed k e = streamed_part k.source (e.typed k)

streamed-rows : (k : Context) (es : List Expr) → map expr_of (map (streamed k) (map meaning es)) ≡ map (streamed_expr k) es
streamed-rows k [] = refl
streamed-rows k (e ∷ es) = ap (λ (xs : List (Typing T.Expr)). streamed_expr k e ∷ xs) (streamed-rows k es)

pub streamed-type : (k : Context) (es : List Expr) (fs gs : List Function) (r : Result (List T.Expr) Halt) → TypesTo r (all (map (streamed_expr k) es) fs) gs → TypesTo r (streamed_parts_of k es fs) gs
streamed-type k es fs gs r h =
    exprs-type (map (streamed k) (map meaning es)) fs gs r (subst (λ (xs : List (Typing T.Expr)). TypesTo r (all xs fs) gs) (sym (streamed-rows k es)) h)
