use Rattle.round_runner.proofs.Telling.{Once}
use Rattle.round_runner.proofs.remake.once_each.Given as goal

abbrev pub invariant-loop-n : goal.invariant-loop-n
invariant-loop-n l = Once l.sorted l.all l.last l.n-index
