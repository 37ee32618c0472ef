use Rattle.std.proofs.Common.{◌≡◌, ◌++◌, map, drop}
use Rattle.v_instances.specs.Slots.{signal_of}
use Rattle.v_stores.specs.Stores.{padded}
use Rattle.v_stores.proofs.initial.all_padded.Given as goal

abbrev pub invariant-loop-slot : goal.invariant-loop-slot
invariant-loop-slot l = l.made.items ++ map padded (map signal_of (drop l.slot-index l.slots)) ≡ map padded (map signal_of l.fn.slots)
