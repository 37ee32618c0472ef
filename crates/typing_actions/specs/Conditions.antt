-- Conditions in a row.
use Rattle.std.specs.Prelude.{List, map}
use Rattle.sv_tree.specs.declared.expressions.Expr.{Expr}
use Rattle.expr_type.specs.declared.operand.Valued.{Valued}
use Rattle.expr_type.specs.Names.{Context}
use Rattle.expr_type.specs.Statements.{condition}
use Rattle.expr_type.specs.Typings.{Typing, all}

abbrev pub conditions_of : Context → List Expr → Typing (List Valued)
conditions_of k es = all (map (condition k) es)

-- values as they are
abbrev pub as_itself : Valued → Valued
as_itself v = v
