use Rattle.round_runner.proofs.OneRound.{Rounding}
use Rattle.round_runner.proofs.round.put_round.Given as goal

abbrev pub invariant-loop-i : goal.invariant-loop-i
invariant-loop-i g l = Rounding (g.P.Processes.machine l.machine) l.started l.initial.to l.held l.to l.i
