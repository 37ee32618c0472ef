use Rattle.std.proofs.Common.{map}
use Rattle.v_instances.specs.Slots.{signal_of}
use Rattle.v_zero.proofs.Starting.{StartedTo}
use Rattle.v_zero.proofs.start.start_store.Given as goal

abbrev pub invariant-loop-n : goal.invariant-loop-n
invariant-loop-n l = StartedTo (map signal_of l.slots) l.written l.n l.initial.store l.store
