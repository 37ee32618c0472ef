use Rattle.std.proofs.Common.{◌≡◌, ◌++◌, map, drop}
use Rattle.v_meaning.specs.Modules.{signals}
use Rattle.v_instances.specs.Slots.{signal_of}
use Rattle.v_instances.proofs.walk.add_signals.Given as goal

abbrev pub invariant-loop-item : goal.invariant-loop-item
invariant-loop-item l = map signal_of l.slots ++ signals (drop l.item-index l.items) ≡ map signal_of l.fn.slots ++ signals l.fn.items
