-- Parts of concatenations and streams.
use Rattle.std.specs.Prelude.{List, map}
use Rattle.sv_tree.specs.declared.expressions.Expr.{Expr}
use Rattle.sv_types.specs.declared.expression.Expr as T
use Rattle.expr_type.specs.declared.operand.Valued.{Valued}
use Rattle.expr_type.specs.Expressions.{Meaning, meaning, parts}
use Rattle.expr_type.specs.Forms.{streamed_part}
use Rattle.expr_type.specs.Names.{Context}
use Rattle.expr_type.specs.Operators.{exprs}
use Rattle.expr_type.specs.Typings.{Typing, all, checked, whole}
use Rattle.typing_values.specs.Values.{part_of, streamed_of}

-- the expression of a value
abbrev pub expr_of : Typing Valued → Typing T.Expr
expr_of x = checked x (λ v. whole v.expr)

abbrev pub part_expr : Context → Expr → Typing T.Expr
part_expr k e = expr_of (part_of k e)

abbrev pub streamed_expr : Context → Expr → Typing T.Expr
streamed_expr k e = expr_of (streamed_of k e)

abbrev pub parts_of : Context → List Expr → Typing (List T.Expr)
parts_of k es = checked (parts k (map meaning es)) (λ vs. whole (exprs vs))

abbrev pub streamed_parts_of : Context → List Expr → Typing (List T.Expr)
streamed_parts_of k es =
    checked (all (map (λ (e : Meaning). streamed_part k.source (e.typed k)) (map meaning es))) (λ vs. whole (exprs vs))
