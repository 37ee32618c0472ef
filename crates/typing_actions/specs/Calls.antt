-- Actuals as the code has them.
use Rattle.std.specs.Prelude.{◌≡◌, ⊤, ℕ, List, [], map, Option, Some, None, Result, Ok, Err, Vec, slice_get}
use Rattle.std.specs.declared.alloc.Global.{Global}
use Rattle.sv_tree.specs.declared.expressions.Expr as T
use Rattle.sv_tree.specs.declared.names.QualifiedName.{QualifiedName}
use Rattle.sv_types.specs.declared.statement.Formal.{Formal}
use Rattle.sv_types.specs.declared.statement.Function.{Function}
use Rattle.sv_types.specs.declared.statement.Stmt.{Stmt}
use Rattle.sv_types.specs.declared.expression.Expr.{Expr}
use Rattle.expr_type.specs.declared.halt.Halt.{Halt}
use Rattle.expr_type.specs.declared.halt.Halt.TheVariants as H
use Rattle.expr_type.specs.Answers.{Gives}
use Rattle.expr_type.specs.Names.{Context, Source}
use Rattle.expr_type.specs.Statements as D
use Rattle.expr_type.specs.Typings.{Checked, Typing}
use Rattle.pattern_types.specs.Meaning.{operand_of}
use Rattle.typing_calls.specs.Calls.{other_count_of}
use Rattle.typing_sides.specs.Sides.{first_stop, stop}
use Rattle.typing_actions.specs.TaskActuals.{actuals_of}
use Rattle.typing_actions.specs.declared.passing.Actual.{Actual}
use Rattle.typing_actions.specs.declared.passing.Actual.TheVariants as A

abbrev pub actual_of : Source → Actual → D.Actual
actual_of k (A.Value o) = record { value = Some (operand_of k o); target = None }
actual_of k (A.Target v) = record { value = None; target = Some v }

-- an actual of a formal
abbrev pub pair_expr : Context → Formal × D.Actual → Checked Expr
pair_expr k p = D.actual_expr k p.0 p.1

-- a call of the function or task at a place
abbrev pub CallsTask : Context → ℕ → ℕ → Option Function → List D.Actual → Result Stmt Halt → Type 0
CallsTask k at place None as' r = r ≡ Err H.Quiet
CallsTask k at place (Some f) as' r = Gives r (D.call_stmt_of k at (record { place = place; of = f }) as')

abbrev pub Stopped : Option Halt → Result Stmt Halt → Type 0
Stopped None r = ⊤
Stopped (Some h) r = r ≡ Err h

-- a call of what has been looked at, the place and the actuals
abbrev pub Called : Context → ℕ → Result ℕ Halt → Result (Vec Actual Global) Halt → List Function → Result Stmt Halt → Type 0
Called k at (Ok n) (Ok as') fs r = CallsTask k at n (slice_get fs n) (map (actual_of k.source) as'.items) r
Called k at (Ok n) (Err h) fs r = r ≡ Err h
Called k at (Err h) as' fs r = Stopped (first_stop (Some h) (stop as')) r

-- a call of another number of actuals than there are formals
abbrev pub other_call_of : Context → QualifiedName → List T.Expr → Typing Stmt
other_call_of k of es = other_count_of k of (actuals_of k [] es)
