use Rattle.std.proofs.Common.{◌≡◌, map, take}
use Rattle.round_runner_tests.specs.Netlists.{writes_of}
use Rattle.round_runner_tests.proofs.netlist.all_writes.Given as goal

abbrev pub invariant-loop-gate : goal.invariant-loop-gate
invariant-loop-gate l = l.all ≡ map writes_of (take l.gate-index l.gates)
