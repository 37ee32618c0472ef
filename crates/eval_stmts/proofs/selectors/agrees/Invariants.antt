use Rattle.std.proofs.Common.{◌≡◌, ◌≤◌, ◌-◌, drop}
use Rattle.sv_types.specs.Runs.{agree}
use Rattle.eval_stmts.proofs.selectors.agrees.Given as goal

abbrev pub invariant-loop-i : goal.invariant-loop-i
invariant-loop-i l = record { within : l.i ≤ l.count; is : agree l.kind (drop l.i l.u) (drop l.i l.v) ≡ agree l.kind l.u l.v }

abbrev pub decreases-loop-i : goal.decreases-loop-i
decreases-loop-i l = l.count - l.i
