use Rattle.std.proofs.Common.{◌≡◌, false, drop, replicate}
use Rattle.memory_breaks.specs.Processes.{all_unsettled}
use Rattle.memory_breaks.proofs.processes.all_unsettled.Given as goal

abbrev pub invariant-loop-k : goal.invariant-loop-k
invariant-loop-k l = all_unsettled l.functions (drop l.k l.processes) (drop l.k l.found) l.marks ≡ all_unsettled l.functions l.processes l.found (replicate l.signals false)
