use Rattle.round_runner.specs.Plans.{AllNumbers}
use Rattle.round_runner.proofs.planned.numbers.Given as goal

abbrev pub invariant-loop-n : goal.invariant-loop-n
invariant-loop-n l = AllNumbers l.n l.all
