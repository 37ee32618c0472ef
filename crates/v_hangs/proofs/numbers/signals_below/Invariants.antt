use Rattle.std.proofs.Common.{take}
use Rattle.v_hangs.specs.Hangs.{AreSignals}
use Rattle.v_hangs.proofs.numbers.signals_below.Given as goal

abbrev pub invariant-loop-number : goal.invariant-loop-number
invariant-loop-number l = AreSignals l.count (take l.number-index l.numbers) l.signals
