-- The control of a loop, and how a `case` chooses.
use Rattle.std.specs.Prelude.{ℕ, List}
use Rattle.sv_types.specs.declared.expression.Expr.{Expr}
use Rattle.sv_types.specs.Layouts.{layout}
use Rattle.sv_types.specs.Surroundings.{Parameter}
use Rattle.sv_types.specs.Operators.{assigned_width}
use Rattle.sv_types.specs.Expressions.{meaning}
use Rattle.sv_types.specs.Runs as R
use Rattle.sv_types.specs.Runs.{ItemRun}
use Rattle.sv_types.specs.Efforts as E
use Rattle.sv_types.specs.Efforts.{Step, ItemEffort}
use Rattle.eval_parts.specs.Limits.{Fits, FitsAlone}
use Rattle.eval_stmts.specs.declared.controls.Control.{Control}

-- a loop by its control and its body
abbrev pub loop_step : Control → Step → Step
loop_step c body = record {
  run = R.loop c.local (meaning c.first.now) (meaning c.test.now) (meaning c.step.now) body.run;
  effort = E.loop c.local (meaning c.first.now) (meaning c.test.now) (meaning c.step.now) body;
}

-- an assignment to its variable, which has the type of its first value
abbrev pub variable_step : Control → Expr → Step
variable_step c e = E.set_variable_step c.local (layout c.first.now.of).two_state (meaning e)

-- a value for the variable of a loop
abbrev pub VariableFits : Control → Expr → (ℕ → List Parameter) → Type 0
VariableFits c e fs = Fits (meaning e) fs (assigned_width (layout c.first.now.of).two_state (meaning e))

pub record ControlFits (c : Control) (fs : ℕ → List Parameter) : Type 0 where
  pub first : VariableFits c c.first.now fs
  pub test : FitsAlone (meaning c.test.now) fs
  pub step : VariableFits c c.step.now fs
