use Rattle.std.proofs.Common.{arith, refl}
use Rattle.eval_parts.specs.Places.{window_of}
use Rattle.eval_store.proofs.Storing.{on-ok}
use Rattle.eval_stmts.proofs.Assigning as A
use Rattle.eval_stmts.proofs.writes.write.Goals as goal

pub returns-in-Signal : goal.returns-in-Signal
returns-in-Signal c =
    let u = c.args.update.now in
    on-ok
    (λ w.
    let written = A.slot-writes c.args.env.now.signals.items c.in-Signal.n c.index_mut-slot.result.now c.write_slot.new.slot (window_of u.to.window) u.bits (omega arith) (A.signal-held u c.in-Signal.n c.args.env.now.signals.items c.in-Signal.is (omega arith) c.requires.held) c.index_mut-slot.ensures.value w in
    record { now = A.signal-now u c.in-Signal.n _ _ c.args.env.now.locals.items c.in-Signal.is written; holds = A.signals-held c.in-Signal.n _ _ _ _ written; pending = refl; budget = refl })
    c.write_slot.result c.write_slot.ensures

pub returns-in-Local : goal.returns-in-Local
returns-in-Local c =
    let u = c.args.update.now in
    on-ok (λ w. record { now = A.local-now u c.in-Local.n c.args.env.now.signals.items c.args.env.now.locals.items c.write_local.new.locals.items c.in-Local.is w; holds = refl; pending = refl; budget = refl }) c.write_local.result c.write_local.ensures
