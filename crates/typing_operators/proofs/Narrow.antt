-- Parts that are narrow, one behind the other.
use Rattle.std.proofs.Common.{Bool, true, false, List, [], ◌∷◌, ◌++◌, subst, sym}
use Rattle.std.specs.Prelude.{Result, Ok, Err, IfOk}
use Rattle.sv_types.specs.declared.expression.Expr.{Expr}
use Rattle.operand_types.specs.Allowed.{AllNarrow, IsNarrowExpr}
use Rattle.expr_type.specs.declared.halt.Halt.{Halt}
use Rattle.typing_rows.specs.Rows.{Adds, so_far}

narrow-append : (es : List Expr) (e : Expr) → AllNarrow es → IsNarrowExpr e → AllNarrow (es ++ e ∷ [])
narrow-append [] e n m = (m, tt)
narrow-append (x ∷ es) e n m = (n.0, narrow-append es e n.1 m)

pub narrow-more : (old new : List Expr) (w v : Bool) (one : Result Expr Halt) → Adds old w one (Ok v) new → AllNarrow old → IfOk one IsNarrowExpr → AllNarrow new
narrow-more old new w v (Ok e) d n m = subst (λ (es : List Expr). AllNarrow es) (sym d.added) (narrow-append old e n m)
narrow-more old new w v (Err h) d n m = subst (λ (es : List Expr). AllNarrow es) (sym d.same) n

pub narrow-whole : (made : List Expr) (w : Bool) → AllNarrow made → IfOk (so_far w made) AllNarrow
narrow-whole made true n = n
narrow-whole made false n = tt
