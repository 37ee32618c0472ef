use Rattle.eval_parts.specs.Places.{window_of}
use Rattle.eval_store.proofs.Storing.{on-ok, slot-at}
use Rattle.eval_store.proofs.slots.write_at.Goals as goal

pub returns : goal.returns
returns c =
    on-ok (λ w. slot-at c.args.slots.now c.args.n c.index-slots-n.result c.write_slot.new.slot (window_of c.args.window) c.args.bits.now c.requires.there w) c.write_slot.result c.write_slot.ensures
