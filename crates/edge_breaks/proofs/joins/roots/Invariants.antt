use Rattle.std.proofs.Common.{◌≡◌, ◌++◌, drop}
use Rattle.edge_breaks.specs.Links as spec
use Rattle.edge_breaks.proofs.joins.roots.Given as goal

abbrev pub invariant-loop-k : goal.invariant-loop-k
invariant-loop-k l = l.all ++ spec.roots_from l.k (drop l.k l.signals) ≡ spec.roots_from 0 l.signals
