use Rattle.round_runner.specs.Plans.{Listed}
use Rattle.round_runner.proofs.grouping.place_signals.Given as goal

abbrev pub invariant-loop-n : goal.invariant-loop-n
invariant-loop-n l = Listed l.places l.lists l.n
