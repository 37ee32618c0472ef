use Rattle.round_runner.proofs.Tracing.{Tracing}
use Rattle.round_runner.proofs.rows.run_rows.Given as goal

abbrev pub invariant-loop-row : goal.invariant-loop-row
invariant-loop-row g l =
    Tracing (g.P.Processes.machine l.machine) (g.P.Processes.shape l.machine) (g.P.Processes.inputs l.machine) l.rows l.trace l.last.items l.held.items l.started l.row-index
