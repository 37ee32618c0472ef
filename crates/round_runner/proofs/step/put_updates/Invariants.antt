use Rattle.round_runner.proofs.Edging.{Edging}
use Rattle.round_runner.proofs.step.put_updates.Given as goal

abbrev pub invariant-loop-i : goal.invariant-loop-i
invariant-loop-i g l = Edging (g.P.Processes.machine l.machine) l.last l.held l.to l.i
