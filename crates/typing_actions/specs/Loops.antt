-- What loops do behind each turn.
use Rattle.std.specs.Prelude.{ℕ, Bool, true, Option}
use Rattle.sv_tree.specs.declared.expressions.Expr as X
use Rattle.sv_tree.specs.declared.operators.AssignmentOperator.{AssignmentOperator}
use Rattle.sv_tree.specs.declared.operators.StepOperator.{StepOperator}
use Rattle.sv_tree.specs.declared.statements.LoopStep.{LoopStep}
use Rattle.sv_tree.specs.declared.statements.LoopStep.TheVariants as L
use Rattle.sv_types.specs.declared.expression.Expr.{Expr}
use Rattle.expr_type.specs.Expressions.{meaning}
use Rattle.expr_type.specs.Names.{Context, LocalId}
use Rattle.expr_type.specs.Operands.{Operand}
use Rattle.expr_type.specs.Statements.{loop_target, one, step_operator, step_value}
use Rattle.expr_type.specs.Targets.{Target}
use Rattle.expr_type.specs.Typings.{Typing, both, checked, rule}
use Rattle.typing_walks.specs.Written.{is_written}

-- a value that is assigned to a loop's variable
abbrev pub stepped : Context → ℕ → AssignmentOperator → Typing Target → Typing Operand → Typing Expr
stepped k at op x y = both x y (λ t o. rule (step_value k at op t o))

-- a loop's variable to which a value is assigned, and that is counted
abbrev pub assigned_of : Context → Option LocalId → ℕ → AssignmentOperator → ℕ → X.Expr → Typing Expr
assigned_of k o name op at e = stepped k at op (loop_target k o name) ((meaning e).typed k)

abbrev pub counted_of : Context → Option LocalId → ℕ → StepOperator → ℕ → Typing Expr
counted_of k o name op at = checked (loop_target k o name) (λ t. rule (step_value k at (step_operator op) t (one k at)))

-- steps in which each concatenation, replication and stream has a part, as those that are read from a text
abbrev pub step_written : LoopStep → Bool
step_written (L.Assign name operator at value) = is_written value
step_written (L.Postfix name operator at) = true
step_written (L.Prefix operator at name) = true
