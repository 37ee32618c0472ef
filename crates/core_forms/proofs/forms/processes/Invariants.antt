use Rattle.std.proofs.Common.{◌≡◌, drop}
use Rattle.core_forms.specs.Forms.{each, process_of}
use Rattle.core_forms.proofs.Gathering.{behind}
use Rattle.core_forms.proofs.forms.processes.Given as goal

abbrev pub invariant-loop-item : goal.invariant-loop-item
invariant-loop-item l = behind l.processes (each process_of (drop l.item-index l.list)) ≡ each process_of l.list
