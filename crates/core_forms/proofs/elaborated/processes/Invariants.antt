use Rattle.std.proofs.Common.{◌≡◌, ◌++◌, map, drop}
use Rattle.core_forms.specs.Typed.{typed_process}
use Rattle.core_forms.proofs.elaborated.processes.Given as goal

abbrev pub invariant-loop-item : goal.invariant-loop-item
invariant-loop-item l = l.processes ++ map (typed_process l.signals) (drop l.item-index l.list) ≡ map (typed_process l.signals) l.list
