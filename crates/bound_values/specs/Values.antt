-- The values of constants, and whether they take too long.
use Rattle.std.specs.Prelude.{◌≡◌, ⊤, ℕ, Bool, true, false, List, Option, Some, None, Result, Ok, Err, alloc_error}
use Rattle.std.specs.declared.alloc.AllocError.{AllocError}
use Rattle.b4_core.specs.declared.bit.Bit4.{Bit4}
use Rattle.sv_types.specs.declared.expression.Expr.{Expr}
use Rattle.sv_types.specs.Expressions.{meaning}
use Rattle.eval_parts.specs.declared.halt.Halt.{Halt}
use Rattle.eval_parts.specs.declared.halt.Halt.TheVariants as H
use Rattle.expr_flows.specs.declared.known.Known.{Known}
use Rattle.expr_flows.specs.Known.{unheld, takes_too_long}

-- a value, unless its run stopped
abbrev pub ended_of : Result (List Bit4) Halt → Result (Option (List Bit4)) AllocError
ended_of (Ok v) = Ok (Some v)
ended_of (Err H.Memory) = Err alloc_error
ended_of (Err (H.NotHeld n)) = Ok None
ended_of (Err H.Turns) = Ok None

abbrev pub ValueIs : Option (List Bit4) → Known → Expr → ℕ → Bool → Type 0
ValueIs None k e w s = takes_too_long k e ≡ true
ValueIs (Some v) k e w s = (takes_too_long k e ≡ false) × (v ≡ (meaning e).value w s (unheld k))

abbrev pub ValuedGives : Result (Option (List Bit4)) AllocError → Known → Expr → ℕ → Bool → Type 0
ValuedGives (Ok o) k e w s = ValueIs o k e w s
ValuedGives (Err x) k e w s = ⊤
