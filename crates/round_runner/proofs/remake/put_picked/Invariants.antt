use Rattle.round_runner.proofs.Picking.{Picking}
use Rattle.round_runner.proofs.remake.put_picked.Given as goal

abbrev pub invariant-loop-i : goal.invariant-loop-i
invariant-loop-i g l = Picking (g.P.Processes.machine l.machine) l.started l.processes l.held l.initial.to l.to l.i-index
