use Rattle.std.proofs.Common.{◌≡◌, ◌<◌, length, rules, arith}
use Rattle.eval_parts.specs.Places.{window_of}
use Rattle.eval_store.proofs.Storing.{on-ok, local-back}
use Rattle.eval_store.proofs.slots.write_local.Goals as goal

pub returns : goal.returns
returns c =
    let items = c.loop-i.locals.items in
    let long : c.loop-i.locals.len ≡ length items = search rules in
    on-ok
    (λ w. local-back c.args.locals.now.items items c.deref_mut.result.now c.write_at.new.slots c.loop-i.locals.len c.args.n (window_of c.args.window) c.args.bits.now c.loop-i.invariant.same
    (omega (arith, c.loop-i.invariant.long)) c.deref_mut.ensures.value long w) c.write_at.result c.write_at.ensures
