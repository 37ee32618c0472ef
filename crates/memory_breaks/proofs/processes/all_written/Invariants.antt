use Rattle.std.proofs.Common.{◌≡◌, drop}
use Rattle.memory_breaks.specs.Processes.{all_written, none_written}
use Rattle.memory_breaks.proofs.processes.all_written.Given as goal

abbrev pub invariant-loop-k : goal.invariant-loop-k
invariant-loop-k l = all_written (drop l.k l.processes) (drop l.k l.found) l.written ≡ all_written l.processes l.found (none_written l.signals)
