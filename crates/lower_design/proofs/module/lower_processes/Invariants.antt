use Rattle.std.proofs.Common.{◌≡◌, ◌++◌, drop}
use Rattle.lower_design.specs.Lowered.{process_items}
use Rattle.lower_design.proofs.module.lower_processes.Given as goal

abbrev pub invariant-loop-process : goal.invariant-loop-process
invariant-loop-process l =
    l.items ++ process_items l.signals (drop l.process-index l.processes) ≡ process_items l.signals l.processes
