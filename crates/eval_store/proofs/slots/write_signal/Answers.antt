use Rattle.std.proofs.Common.{◌<◌, ◌^◌, arith}
use Rattle.eval_parts.specs.Places.{window_of}
use Rattle.eval_store.proofs.Storing.{held-there, on-ok, signal-at}
use Rattle.eval_store.proofs.slots.write_signal.Goals as goal

pub write_at-requires-clause-there : goal.write_at-requires-clause-there
write_at-requires-clause-there c = held-there c.args.signals.now c.args.n c.requires.held

pub returns : goal.returns
returns c =
    on-ok (λ w. signal-at c.args.signals.now c.write_at.new.slots c.args.n (window_of c.args.window) c.args.bits.now (omega arith) c.requires.held w) c.write_at.result c.write_at.ensures
