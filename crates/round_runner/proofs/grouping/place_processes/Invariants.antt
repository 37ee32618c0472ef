use Rattle.round_runner.specs.Plans.{Built}
use Rattle.round_runner.proofs.grouping.place_processes.Given as goal

abbrev pub invariant-loop-i : goal.invariant-loop-i
invariant-loop-i g l = Built (g.P.Processes.machine l.machine) l.places l.processes l.readers l.i
