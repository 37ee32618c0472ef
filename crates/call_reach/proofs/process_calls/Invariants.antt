use Rattle.std.proofs.Common.{◌≡◌, ◌++◌, drop, flat_map}
use Rattle.call_reach.specs.Called as spec
use Rattle.call_reach.proofs.process_calls.Given as goal

abbrev pub invariant-loop-p : goal.invariant-loop-p
invariant-loop-p l = l.all ++ flat_map spec.process_calls (drop l.p-index l.processes) ≡ flat_map spec.process_calls l.processes
