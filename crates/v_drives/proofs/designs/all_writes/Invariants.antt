use Rattle.std.proofs.Common.{◌≡◌, ◌++◌, map, drop}
use Rattle.v_processes.specs.Processes.{processes_at}
use Rattle.v_writes.specs.Writes.{use_in}
use Rattle.v_drives.specs.Designs.{all_made, AreQuietBy, ForModules}
use Rattle.v_drives.proofs.designs.all_writes.Given as goal

abbrev pub invariant-loop-process : goal.invariant-loop-process
invariant-loop-process g l = record {
  known : AreQuietBy l.tables l.known.of l.known.first l.known.functions;
  writes : ForModules l.tables (λ ms. map use_in l.to ++ all_made l.later (processes_at ms (drop l.process-index l.procs)) ≡ all_made l.later (processes_at ms l.procs));
}
