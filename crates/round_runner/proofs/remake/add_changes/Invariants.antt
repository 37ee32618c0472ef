use Rattle.round_runner.proofs.Groups.{Adding}
use Rattle.round_runner.proofs.remake.add_changes.Given as goal

abbrev pub invariant-loop-n : goal.invariant-loop-n
invariant-loop-n l = Adding l.signals l.old l.new l.initial.changed l.changed l.n-index
