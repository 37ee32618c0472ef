use Rattle.std.proofs.Common.{◌≡◌, drop}
use Rattle.core_forms.specs.Forms.{each, signal_of}
use Rattle.core_forms.proofs.Gathering.{behind}
use Rattle.core_forms.proofs.forms.signals.Given as goal

abbrev pub invariant-loop-item : goal.invariant-loop-item
invariant-loop-item l = behind l.signals (each signal_of (drop l.item-index l.list)) ≡ each signal_of l.list
