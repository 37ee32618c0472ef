use Rattle.std.proofs.Common.{◌-◌, ◌^◌, arith}
use Rattle.eval_store.proofs.Storing.{on-ok}
use Rattle.v_eval.specs.Windows.{window_of}
use Rattle.v_run.proofs.HeldWrites.{signal-written, local-written}
use Rattle.v_run.proofs.slots.write.Goals as goal

pub returns-then-number-lt4294967296 : goal.returns-then-number-lt4294967296
returns-then-number-lt4294967296 c =
    on-ok
    (λ w. signal-written c.args.signals.now c.args.over.now.items c.write_signal.new.over.items c.args.locals.now.items c.args.number (window_of c.args.window) c.args.bits.now (omega (arith, c.if-number-lt4294967296.true)) w)
    c.write_signal.result c.write_signal.ensures

pub returns-else-number-lt4294967296 : goal.returns-else-number-lt4294967296
returns-else-number-lt4294967296 c =
    on-ok
    (λ w. local-written c.args.signals.now c.args.over.now.items c.args.locals.now.items c.write_local.new.slots.items (c.args.number - 2 ^ 32) c.args.number (window_of c.args.window) c.args.bits.now
    (omega (arith, c.if-number-lt4294967296.false)) w) c.write_local.result c.write_local.ensures
