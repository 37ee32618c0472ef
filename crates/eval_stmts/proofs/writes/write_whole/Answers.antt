use Rattle.std.proofs.Common.{refl}
use Rattle.sv_types.specs.Layouts.{layout}
use Rattle.eval_parts.specs.Places.{window_of}
use Rattle.eval_store.proofs.Storing.{on-ok}
use Rattle.eval_stmts.proofs.Assigning as A
use Rattle.eval_stmts.proofs.writes.write_whole.Goals as goal

pub returns : goal.returns
returns c =
    on-ok
    (λ w. record { now = A.whole-now c.args.number c.width.result (layout c.args.of.now).two_state (window_of c.entire.result) c.args.bits.now c.args.env.now.signals.items c.args.env.now.locals.items c.write_local.new.locals.items c.entire.ensures.window c.width.ensures.bits w; holds = refl; pending = refl; budget = refl })
    c.write_local.result c.write_local.ensures
