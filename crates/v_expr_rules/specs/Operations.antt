-- The kinds of operators.
use Rattle.v_tree.specs.ExprRules as X
use Rattle.v_expr_rules.specs.declared.operations.Operation.{Operation}
use Rattle.v_expr_rules.specs.declared.operations.Operation.TheVariants as O

abbrev pub kind : Operation → X.Operation
kind O.Arithmetic = X.arithmetic
kind O.Power = X.power
kind O.Shift = X.shift
kind O.Order = X.order
kind O.Equality = X.equality
kind O.Bitwise = X.bitwise
kind O.Logical = X.logical
