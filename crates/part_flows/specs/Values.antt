-- The control of loops, as far as it is known.
use Rattle.std.specs.Prelude.{◌≡◌, Bool, true, false, List, Option, Some, None, Result, Ok, Err}
use Rattle.b4_core.specs.declared.bit.Bit4.{Bit4}
use Rattle.sv_types.specs.declared.expression.Expr.{Expr}
use Rattle.sv_types.specs.declared.types.SvType.{SvType}
use Rattle.sv_types.specs.Layouts.{layout}
use Rattle.sv_types.specs.Operators.{assigned_to}
use Rattle.sv_types.specs.Runs as R
use Rattle.sv_types.specs.Expressions.{meaning}
use Rattle.expr_flows.specs.declared.fails.FlowFail.{FlowFail}
use Rattle.expr_flows.specs.declared.known.Known.{Known}
use Rattle.expr_flows.specs.Known.{sight, ValueFails}
use Rattle.expr_flows.specs.Reads.{ReadFails, IndexFails}

-- whether a value is known
abbrev pub ConstantGives : Result Bool FlowFail → Known → Expr → Type 0
ConstantGives (Ok b) k e = b ≡ (meaning e).constant (sight k)
ConstantGives (Err f) k e = ReadFails f k e

-- what a constant assigns to a type
abbrev pub AssignedGives : Result (List Bit4) FlowFail → Known → SvType → Expr → Type 0
AssignedGives (Ok v) k t e = v ≡ assigned_to (layout t).two_state (meaning e) (sight k).around
AssignedGives (Err f) k t e = ValueFails f k e

abbrev pub TruthGives : Result Bool FlowFail → Known → Expr → Type 0
TruthGives (Ok b) k e = b ≡ R.is_true (meaning e) (sight k).around
TruthGives (Err f) k e = ValueFails f k e

-- A test, and a next value, if they are known. They fail as constants whose value takes too long, or that hold such an index.
abbrev pub TestIs : Option Bool → Known → Expr → Type 0
TestIs None k e = (meaning e).constant (sight k) ≡ false
TestIs (Some b) k e = ((meaning e).constant (sight k) ≡ true) × (b ≡ R.is_true (meaning e) (sight k).around)

abbrev pub TestGives : Result (Option Bool) FlowFail → Known → Expr → Type 0
TestGives (Ok o) k e = TestIs o k e
TestGives (Err f) k e = IndexFails f k e

abbrev pub NextIs : Option (List Bit4) → Known → SvType → Expr → Type 0
NextIs None k t e = (meaning e).constant (sight k) ≡ false
NextIs (Some v) k t e = ((meaning e).constant (sight k) ≡ true) × (v ≡ assigned_to (layout t).two_state (meaning e) (sight k).around)

abbrev pub NextGives : Result (Option (List Bit4)) FlowFail → Known → SvType → Expr → Type 0
NextGives (Ok o) k t e = NextIs o k t e
NextGives (Err f) k t e = IndexFails f k e
