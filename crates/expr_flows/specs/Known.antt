-- What is known before a run, as the code has it, and the values of constants.
use Rattle.std.specs.Prelude.{◌≡◌, ⊤, ℕ, Bool, true, false, ◌||◌, List, [], ◌∷◌, Option, Some, Result, Ok, Err, is_some}
use Rattle.b4_core.specs.declared.bit.Bit4.{Bit4}
use Rattle.row_machine.specs.Valuation.{Place}
use Rattle.sv_types.specs.declared.expression.Expr.{Expr}
use Rattle.sv_types.specs.declared.statement.Function.{Function}
use Rattle.sv_types.specs.Surroundings.{Around, Sight, Use, local_number}
use Rattle.sv_types.specs.Meanings.{alone}
use Rattle.sv_types.specs.Expressions.{meaning}
use Rattle.sv_types.specs.Flows.{covers}
use Rattle.sv_types.specs.Functions.{callees}
use Rattle.eval_parts.specs.declared.halt.Halt.{Halt}
use Rattle.eval_parts.specs.declared.halt.Halt.TheVariants as H
use Rattle.eval_parts.specs.Steps.{is_held}
use Rattle.eval_parts.specs.Surroundings.{now_of, running}
use Rattle.expr_flows.specs.declared.fails.FlowFail.{FlowFail}
use Rattle.expr_flows.specs.declared.fails.FlowFail.TheVariants as F
use Rattle.expr_flows.specs.declared.known.Known.{Known}
use Rattle.expr_flows.specs.declared.known.Variable.{Variable}

-- the bits of a variable of a loop
abbrev pub bits_of_variable : Variable → Use
bits_of_variable v = record { number = local_number v.local; low = 0; high = v.width; at = 0 }

-- what is sure: the bits of these variables
abbrev pub sure_of : List Variable → Place → Bool
sure_of [] q = false
sure_of (v ∷ vs) q = covers (bits_of_variable v) q || sure_of vs q

-- what is known of a process or function before it runs, by its functions and by the loops around
abbrev pub sight_in : List Function → List (Option (List Bit4)) → List Variable → Sight
sight_in fs locals variables = record {
  around = record { now = now_of [] locals; holds = λ n. true; callee = callees fs };
  sure = sure_of variables;
}

abbrev pub sight : Known → Sight
sight k = sight_in k.functions.now k.locals.now k.variables.now

-- what constants are valued in: no signal is held
abbrev pub unheld : Known → Around
unheld k = record { now = now_of [] k.locals.now; holds = is_held []; callee = callees k.functions.now }

-- its value takes over 65,536 turns of a loop or 2^20 statements, or reads a signal
abbrev pub takes_too_long : Known → Expr → Bool
takes_too_long k e = is_some ((meaning e).values (unheld k) (running (Some 1048576))).stop

abbrev pub IsFailOf : Halt → ℕ → FlowFail → Type 0
IsFailOf H.Memory at f = f ≡ F.Memory
IsFailOf (H.NotHeld n) at f = f ≡ F.TooLong at
IsFailOf H.Turns at f = f ≡ F.TooLong at

-- why an expression has no value
abbrev pub ValueFails : FlowFail → Known → Expr → Type 0
ValueFails F.Memory k e = ⊤
ValueFails (F.TooLong at) k e = (at ≡ e.spot.at) × (takes_too_long k e ≡ true)

abbrev pub ValueGives : Result (List Bit4) FlowFail → Known → Expr → ℕ → Bool → Type 0
ValueGives (Ok v) k e w s = v ≡ (meaning e).value w s (unheld k)
ValueGives (Err f) k e w s = ValueFails f k e

abbrev pub AloneGives : Result (List Bit4) FlowFail → Known → Expr → Type 0
AloneGives (Ok v) k e = v ≡ alone (meaning e) (unheld k)
AloneGives (Err f) k e = ValueFails f k e
