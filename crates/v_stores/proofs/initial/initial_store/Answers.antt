use Rattle.std.proofs.Common.{map}
use Rattle.v_instances.specs.Slots.{signal_of}
use Rattle.v_stores.proofs.Padding.{stored}
use Rattle.v_stores.proofs.initial.initial_store.Goals as goal

pub returns : goal.returns
returns c = stored (map signal_of c.args.slots.now) c.in_ok-made.made.items c.in_ok-made.ensures
