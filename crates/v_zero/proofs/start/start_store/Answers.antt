use Rattle.std.proofs.Common.{map, refl, sym, subst, arith}
use Rattle.v_instances.specs.Slots.{signal_of}
use Rattle.v_zero.specs.Zero.{StartedOne}
use Rattle.v_zero.proofs.Starting.{next-started, all-started, same-count, count-signals}
use Rattle.v_zero.proofs.start.start_store.Goals as goal

pub loop-n-preserved : goal.loop-n-preserved
loop-n-preserved c =
    let count = same-count c.args.store.now c.args.slots.now c.requires in
    next-started c.args.slots.now c.args.written.now c.loop-n.n _ c.args.store.now c.loop-n.store c.index-slots-n.result c.index-store-n.result c.start_one.new.bits c.marks_at.result.now (omega arith) (omega (arith, count)) c.index-slots-n.is c.index-store-n.is c.marks_at.ensures refl
    (subst (λ v. StartedOne (signal_of c.index-slots-n.result) c.marks_at.result.now v c.start_one.new.bits) (sym c.index-store-n.is) c.start_one.ensures) c.loop-n.invariant

pub returns : goal.returns
returns c =
    let count = same-count c.args.store.now c.args.slots.now c.requires in
    let signals = count-signals c.args.slots.now in
    all-started (map signal_of c.args.slots.now) c.args.written.now c.loop-n.n c.args.store.now c.loop-n.store c.requires (omega (arith, count, signals)) c.loop-n.invariant
