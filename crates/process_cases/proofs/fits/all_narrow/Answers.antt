use Rattle.std.proofs.Common.{refl, arith}
use Rattle.expr_fits.proofs.Walks as W
use Rattle.process_cases.specs.Fits.{EachNarrow}
use Rattle.process_cases.proofs.fits.all_narrow.Goals as goal

pub loop-signal-preserved : goal.loop-signal-preserved
loop-signal-preserved c = W.next EachNarrow c.args.signals.now c.loop-signal.signal-index c.signal-item.result (omega arith) c.signal-item.is (λ r. (c.if-not-is_narrow.ensures.0 refl, r)) c.loop-signal.invariant

pub returns : goal.returns
returns c = W.done EachNarrow c.args.signals.now c.loop-signal.signal-index (omega arith) tt c.loop-signal.invariant
