use Rattle.std.proofs.Common.{take}
use Rattle.round_runner.specs.Plans.{AreTold}
use Rattle.round_runner.proofs.remake.told_groups.Given as goal

abbrev pub invariant-loop-n : goal.invariant-loop-n
invariant-loop-n l = AreTold l.plan (take l.n-index l.changed) l.all.items
