-- The bounds of loops, where no signal counts.
use Rattle.std.specs.Prelude.{◌≡◌, ⊤, ℕ, Bool, true, false, List, Some, None, Result, Ok, Err}
use Rattle.b4_core.specs.declared.bit.Bit4.{Bit4}
use Rattle.sv_types.specs.declared.expression.Expr.{Expr}
use Rattle.sv_types.specs.declared.types.SvType.{SvType}
use Rattle.sv_types.specs.Layouts.{layout}
use Rattle.sv_types.specs.Operators.{assigned_to}
use Rattle.sv_types.specs.Runs.{is_true}
use Rattle.sv_types.specs.Expressions.{meaning}
use Rattle.expr_flows.specs.declared.known.Known.{Known}
use Rattle.expr_flows.specs.Known.{sight}
use Rattle.design_breaks.specs.Indices.{unheld}
use Rattle.design_breaks.specs.Unrolling.{too_long_at}
use Rattle.bound_values.specs.declared.bounds.Bound.{Bound}
use Rattle.bound_values.specs.declared.bounds.Bound.TheVariants as B
use Rattle.bound_values.specs.declared.bounds.Test.{Test}
use Rattle.bound_values.specs.declared.bounds.Test.TheVariants as T

abbrev pub BoundIs : Bound → Known → Expr → (List Bit4 → Type 0) → Type 0
BoundIs (B.Long at) k e is = too_long_at e (sight k) ≡ Some at
BoundIs (B.Bits v) k e is = (too_long_at e (sight k) ≡ None) × is v

abbrev pub BoundGives : {E : Type 0} → Result Bound E → Known → Expr → ℕ → Bool → Type 0
BoundGives (Ok b) k e w s = BoundIs b k e (λ v. v ≡ (meaning e).value w s (unheld (sight k).around))
BoundGives (Err x) k e w s = ⊤

abbrev pub TestIs : Test → Known → Expr → Type 0
TestIs (T.Long at) k e = too_long_at e (sight k) ≡ Some at
TestIs T.Stops k e = (too_long_at e (sight k) ≡ None) × (is_true (meaning e) (unheld (sight k).around) ≡ false)
TestIs T.Goes k e = (too_long_at e (sight k) ≡ None) × (is_true (meaning e) (unheld (sight k).around) ≡ true)

abbrev pub TestGives : {E : Type 0} → Result Test E → Known → Expr → Type 0
TestGives (Ok t) k e = TestIs t k e
TestGives (Err x) k e = ⊤

-- what is assigned to a type
abbrev pub AssignedGives : {E : Type 0} → Result Bound E → Known → SvType → Expr → Type 0
AssignedGives (Ok b) k t e = BoundIs b k e (λ v. v ≡ assigned_to (layout t).two_state (meaning e) (unheld (sight k).around))
AssignedGives (Err x) k t e = ⊤
