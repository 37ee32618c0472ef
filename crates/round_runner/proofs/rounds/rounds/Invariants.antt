use Rattle.round_runner.proofs.Running.{Running}
use Rattle.round_runner.proofs.rounds.rounds.Given as goal

abbrev pub invariant-rounds : goal.invariant-rounds
invariant-rounds g l = Running (g.P.Processes.machine l.machine) l.started l.base l.now.items l.left

abbrev pub decreases-rounds : goal.decreases-rounds
decreases-rounds g l = l.left
