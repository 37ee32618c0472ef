-- Loops as the code has them.
use Rattle.std.specs.Prelude.{ℕ, Option}
use Rattle.sv_types.specs.declared.statement.Stmt as R
use Rattle.expr_type.specs.Names.{Context}
use Rattle.expr_type.specs.Statements as D
use Rattle.expr_type.specs.Typings.{Typing, both, both_by, whole}
use Rattle.frame_things.specs.Finding.{local_id}
use Rattle.typing_declarations.specs.declared.turns.LoopVariable.{LoopVariable}
use Rattle.typing_declarations.specs.declared.turns.Control.{Control}

abbrev pub variable_of : LoopVariable → D.LoopVariable
variable_of v = record { id = local_id v.local; first = v.first }

abbrev pub control_of : Control → D.Control
control_of c = record { test = c.test; step = c.step }

-- a loop of a variable, its control and its statement, both of which are looked at where the variable stands
abbrev pub looped : Context → ℕ → Typing D.LoopVariable → (Option D.LoopVariable → Typing D.Control) → (Option D.LoopVariable → Typing R.Stmt) → Typing R.Stmt
looped k at x y z = both_by x (λ o. both (y o) (z o) D.turns) (λ v t. whole (D.loop_stmt k at v t))
