-- Parentheses and calls, alone or with a cast to the size that they give behind them.
use Rattle.std.specs.Prelude.{ℕ, List, Option, Some, None}
use Rattle.sv_tree.specs.Extents.{qualified_first}
use Rattle.sv_tree.specs.declared.expressions.Cast.{Cast}
use Rattle.sv_tree.specs.declared.expressions.Expr.{Expr}
use Rattle.sv_tree.specs.declared.names.QualifiedName.{QualifiedName}
use Rattle.expr_type.specs.Expressions.{meaning}
use Rattle.expr_type.specs.Forms.{plain}
use Rattle.expr_type.specs.Names.{Context}
use Rattle.expr_type.specs.Operands as V
use Rattle.expr_type.specs.Typings.{Typing, checked, whole}
use Rattle.typing_patterns.specs.TypingValues.{by_size, call}

abbrev pub in_parentheses : Context → ℕ → Expr → Typing V.Operand
in_parentheses k opening v = checked ((meaning v).typed k) (λ o. whole (V.parenthesized opening o))

abbrev pub parenthesized_of : Context → ℕ → Expr → Option Cast → Typing V.Operand
parenthesized_of k opening v None = in_parentheses k opening v
parenthesized_of k opening v (Some c) = plain (by_size k opening ((meaning v).typed k) c)

abbrev pub called_of : Context → QualifiedName → List Expr → Option Cast → Typing V.Operand
called_of k of es None = plain (call k of es)
called_of k of es (Some c) = plain (by_size k (qualified_first of) (plain (call k of es)) c)
