use Rattle.std.proofs.Common.{◌≡◌, ◌++◌, map, drop}
use Rattle.stim_rows.specs.Slots as spec
use Rattle.stim_rows.specs.Slots.{behind}
use Rattle.stim_rows.specs.declared.slots.Slot.TheVariants.{Space}
use Rattle.stim_rows.proofs.slots.push_further.Given as goal

abbrev pub invariant-loop-port : goal.invariant-loop-port
invariant-loop-port l = l.slots.items ++ behind Space (map spec.port_slots (drop l.port-index l.ports)) ≡ l.fn.slots.items ++ behind Space (map spec.port_slots l.ports)
