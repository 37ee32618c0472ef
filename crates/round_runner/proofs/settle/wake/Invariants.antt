use Rattle.round_runner.proofs.Starting.{Looking}
use Rattle.round_runner.proofs.settle.wake.Given as goal

abbrev pub invariant-loop-i : goal.invariant-loop-i
invariant-loop-i g l = Looking (g.P.Processes.machine l.machine) l.now l.initial.started l.started l.more l.i
