use Rattle.std.proofs.Common.{take}
use Rattle.round_runner.specs.Plans.{Tells}
use Rattle.round_runner.proofs.grouping.tell.Given as goal

abbrev pub invariant-loop-n : goal.invariant-loop-n
invariant-loop-n l = Tells (take l.n-index l.signals) l.group l.initial.readers l.readers
