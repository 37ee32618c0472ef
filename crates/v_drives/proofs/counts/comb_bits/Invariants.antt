use Rattle.std.proofs.Common.{◌≡◌, ◌≤◌, ℕ, ◌+◌, ◌*◌, ◌^◌, map, drop}
use Rattle.v_meaning.specs.Machine.{size}
use Rattle.v_meaning.specs.Modules.{Parts}
use Rattle.v_processes.specs.Processes.{processes_at}
use Rattle.v_drives.specs.Designs.{bits_written, AreQuietBy, ForModules}
use Rattle.v_drives.proofs.counts.comb_bits.Given as goal

abbrev pub invariant-loop-process : goal.invariant-loop-process
invariant-loop-process g l = record {
  known : AreQuietBy l.tables l.known.of l.known.first l.known.functions;
  bound : l.count ≤ l.process-index * 2 ^ 64;
  value : ForModules l.tables (λ ms. (own : ℕ) (d : Parts) → map size d.signals ≡ l.row.widths → l.count + bits_written own d (processes_at ms (drop l.process-index l.procs)) ≡ bits_written own d (processes_at ms l.procs));
}
