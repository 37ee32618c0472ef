use Rattle.std.proofs.Common.{not, count_by}
use Rattle.round_runner.proofs.Waiting.{Onward}
use Rattle.round_runner.proofs.settle.settle.Given as goal

abbrev pub invariant-starts : goal.invariant-starts
invariant-starts g l = Onward (g.P.Processes.machine l.machine) l.base l.initial.started l.started

abbrev pub decreases-starts : goal.decreases-starts
decreases-starts g l = count_by not l.started
