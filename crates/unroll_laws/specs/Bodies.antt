-- What the bodies of a design's processes and functions keep that is looked at before a run.
use Rattle.std.specs.Prelude.{◌≡◌, ℕ, true, List, Some, slice_get}
use Rattle.sv_types.specs.declared.design.Design.{Design}
use Rattle.sv_types.specs.declared.design.Process.{Process}
use Rattle.sv_types.specs.declared.statement.Function.{Function}
use Rattle.sv_types.specs.declared.statement.Stmt.{Stmt}
use Rattle.eval_forms.specs.Callees.{formals_in}
use Rattle.eval_runs.specs.Functions.{AllCanRun}
use Rattle.eval_stmts.specs.Limits.{StmtFits}
use Rattle.stmt_flows.specs.Full.{stmt_full}
use Rattle.unroll_laws.specs.Passing.{passes_few}

-- the limits of typed statements; and no call in an expression, and none of a task or void function, passes more than it has formals
pub record BodyFits (s : Stmt) (fs : List Function) : Type 0 where
  pub fits : StmtFits s (formals_in fs) (λ n. true)
  pub full : stmt_full (formals_in fs) s ≡ true
  pub few : passes_few (formals_in fs) s ≡ true

pub record DesignFits (d : Design) : Type 0 where
  pub functions : AllCanRun d.functions
  pub processes : (n : ℕ) (p : Process) → slice_get d.processes n ≡ Some p → BodyFits p.body d.functions
  pub bodies : (n : ℕ) (f : Function) → slice_get d.functions n ≡ Some f → BodyFits f.body d.functions
