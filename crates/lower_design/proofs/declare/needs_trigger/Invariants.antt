use Rattle.std.proofs.Common.{◌≡◌, drop}
use Rattle.std.specs.List.{list_any}
use Rattle.sv_core.specs.declared.design.Process.{Process}
use Rattle.lower_design.specs.Lowered.{is_triggered}
use Rattle.lower_design.proofs.declare.needs_trigger.Given as goal

abbrev pub invariant-loop-process : goal.invariant-loop-process
invariant-loop-process l =
    list_any (λ (p : Process). is_triggered p.kind) (drop l.process-index l.processes) ≡ list_any (λ (p : Process). is_triggered p.kind) l.processes
