use Rattle.std.proofs.Common.{take}
use Rattle.round_runner.specs.Plans.{Taken}
use Rattle.round_runner.proofs.remake.take_vectors.Given as goal

abbrev pub invariant-loop-n : goal.invariant-loop-n
invariant-loop-n l = Taken (take l.n-index l.signals) l.from l.initial.to l.to
