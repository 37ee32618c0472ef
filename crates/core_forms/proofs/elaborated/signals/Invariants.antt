use Rattle.std.proofs.Common.{◌≡◌, ◌++◌, map, drop}
use Rattle.core_forms.specs.Typed.{typed_signal}
use Rattle.core_forms.proofs.elaborated.signals.Given as goal

abbrev pub invariant-loop-item : goal.invariant-loop-item
invariant-loop-item l = l.signals ++ map typed_signal (drop l.item-index l.list) ≡ map typed_signal l.list
