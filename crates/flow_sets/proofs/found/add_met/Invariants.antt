use Rattle.std.proofs.Common.{◌≡◌, ◌++◌, drop}
use Rattle.flow_sets.specs.Uses.{met}
use Rattle.flow_sets.proofs.found.add_met.Given as goal

abbrev pub invariant-loop-u : goal.invariant-loop-u
invariant-loop-u l = l.all ++ met l.s (drop l.u-index l.uses) ≡ l.fn.to ++ met l.s l.uses
