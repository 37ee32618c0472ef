use Rattle.round_runner.proofs.Changing.{Changing}
use Rattle.round_runner.proofs.planned.rounds_from_base.Given as goal

abbrev pub invariant-rounds : goal.invariant-rounds
invariant-rounds g l = Changing (g.P.Processes.machine l.machine) l.plan l.started l.base l.now l.next l.groups l.left

abbrev pub decreases-rounds : goal.decreases-rounds
decreases-rounds g l = l.left
