-- What valuing a constant answers.
use Rattle.std.specs.Prelude.{◌≡◌, ⊤, ℕ, true, false, List, Result, Ok, Err}
use Rattle.b4_core.specs.declared.bit.Bit4.{Bit4}
use Rattle.sv_types.specs.declared.expression.Expr.{Expr}
use Rattle.sv_types.specs.declared.statement.Function.{Function}
use Rattle.sv_types.specs.declared.types.SvType.{SvType}
use Rattle.sv_types.specs.declared.types.Value.{Value}
use Rattle.sv_types.specs.Expressions.{meaning}
use Rattle.sv_types.specs.Layouts.{layout}
use Rattle.sv_types.specs.Operators.{assigned_to}
use Rattle.eval_parts.specs.declared.halt.Halt as E
use Rattle.eval_parts.specs.declared.halt.Halt.TheVariants as V
use Rattle.const_eval.specs.declared.fails.EvalFail.{EvalFail}
use Rattle.const_eval.specs.declared.fails.EvalFail.TheVariants as F
use Rattle.expr_type.specs.declared.halt.Halt.{Halt}
use Rattle.expr_type.specs.declared.halt.Halt.TheVariants as H
use Rattle.expr_type.specs.Names.{Source, position}
use Rattle.expr_type.specs.Operands.{nothing_held, stops, value_by}
use Rattle.expr_type.specs.Typings.{Checked, refused}

abbrev pub fail_halt : ℕ → EvalFail → Halt
fail_halt first F.Memory = H.Memory
fail_halt first (F.NotConstant at) = H.Breaks first 608
fail_halt first (F.Turns at) = H.Breaks first 608

abbrev pub run_halt : ℕ → E.Halt → Halt
run_halt first V.Memory = H.Memory
run_halt first (V.NotHeld n) = H.Breaks first 608
run_halt first V.Turns = H.Breaks first 608

-- E608
abbrev pub runs_on : Source → ℕ → List Function → Expr → Checked (Unit {0})
runs_on k first fs e = refused (stops fs e) (position k first) 608 (Ok tt)

abbrev pub valued : Source → ℕ → List Function → SvType → Expr → Checked Value
valued k first fs t e = refused (stops fs e) (position k first) 608 (Ok (value_by fs t e))

-- the bits that are given to a type, where nothing stops
abbrev pub BitsGive : Result (List Bit4) E.Halt → SvType → Expr → List Function → Type 0
BitsGive (Ok v) t e fs = (v ≡ assigned_to (layout t).two_state (meaning e) (nothing_held fs)) × (stops fs e ≡ false)
BitsGive (Err V.Memory) t e fs = ⊤
BitsGive (Err (V.NotHeld n)) t e fs = stops fs e ≡ true
BitsGive (Err V.Turns) t e fs = stops fs e ≡ true
