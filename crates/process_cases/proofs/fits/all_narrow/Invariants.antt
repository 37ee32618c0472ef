use Rattle.std.proofs.Common.{drop}
use Rattle.process_cases.specs.Fits.{EachNarrow}
use Rattle.process_cases.proofs.fits.all_narrow.Given as goal

abbrev pub invariant-loop-signal : goal.invariant-loop-signal
invariant-loop-signal l = EachNarrow (drop l.signal-index l.signals) → EachNarrow l.signals
