-- What is known of statements, form by form.
use Rattle.std.specs.Prelude.{◌≡◌, ◌⊎◌, ℕ, true, false, List, [], ◌∷◌, ◌++◌, Option}
use Rattle.b4_core.specs.declared.bit.Bit4.TheVariants.{X}
use Rattle.sv_types.specs.declared.expression.Expr.{Expr}
use Rattle.sv_types.specs.declared.statement.Function.{Function}
use Rattle.sv_types.specs.declared.statement.Local.{Local}
use Rattle.sv_types.specs.declared.statement.Stmt.{Stmt}
use Rattle.sv_types.specs.Surroundings.{Sight}
use Rattle.sv_types.specs.Expressions.{meaning}
use Rattle.sv_types.specs.Flows as F
use Rattle.sv_types.specs.Flows.{Flow}
use Rattle.sv_types.specs.Functions.{callees}
use Rattle.sv_types.specs.Statements.{doing}
use Rattle.stmt_flows.specs.Full.{written_starts}
use Rattle.stmt_flows.specs.Gives.{perhaps_flow}
use Rattle.stmt_flows.specs.Long.{Loop, LongFrom, LongInOne, SomeHoldLong, TakesLong, those, entered}

-- what is known of a process before it runs, or of the body of a function: the functions, and nothing of what signals hold
abbrev pub unseen_by : List Function → Sight
unseen_by fs = record { around = record { now = λ q. X; holds = λ n. true; callee = callees fs }; sure = λ q. false }

abbrev pub if_flow : Expr → Stmt → Option Stmt → Sight → Flow
if_flow on body other h = F.counted (F.and_then (F.reading ((meaning on).reads h)) (F.or_else ((doing body).flow h) (perhaps_flow other h)))

abbrev pub loop_flow : Loop → Sight → Flow
loop_flow l h = F.looping l.variable (meaning l.first) (meaning l.test) (meaning l.step) (doing l.body).flow h

-- where a constant takes too long
abbrev pub LongInIf : Sight → Expr → Stmt → Option Stmt → ℕ → Type 0
LongInIf h on body other at = SomeHoldLong h (on ∷ []) at ⊎ LongInOne h (body ∷ those other) at

abbrev pub LongInMade : Sight → List Local → List Stmt → Option Stmt → ℕ → Type 0
LongInMade h ls before body at = SomeHoldLong h (written_starts ls) at ⊎ LongInOne h (before ++ those body) at

abbrev pub LongInLoop : Sight → Loop → ℕ → Type 0
LongInLoop h l at = (TakesLong h l.first at ⊎ SomeHoldLong h (l.first ∷ []) at) ⊎ (((meaning l.first).constant h ≡ true) × LongFrom l (entered l h) at)
