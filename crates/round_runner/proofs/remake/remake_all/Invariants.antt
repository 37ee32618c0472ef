use Rattle.std.proofs.Common.{take}
use Rattle.round_runner.specs.Plans.{Remade}
use Rattle.round_runner.proofs.remake.remake_all.Given as goal

abbrev pub invariant-loop-group : goal.invariant-loop-group
invariant-loop-group g l = Remade (g.P.Processes.machine l.machine) l.plan l.started l.base l.held (take l.group-index l.groups) l.initial.to l.to
