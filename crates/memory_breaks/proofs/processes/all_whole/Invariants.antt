use Rattle.std.proofs.Common.{◌≡◌, false, drop, replicate}
use Rattle.memory_breaks.specs.Processes.{all_whole}
use Rattle.memory_breaks.proofs.processes.all_whole.Given as goal

abbrev pub invariant-loop-p : goal.invariant-loop-p
invariant-loop-p l = all_whole (drop l.p-index l.processes) l.marks ≡ all_whole l.processes (replicate l.signals false)
