use Rattle.std.proofs.Common.{◌≡◌, drop, None}
use Rattle.edge_breaks.specs.Links as spec
use Rattle.edge_breaks.proofs.edges.least_unfit.Given as goal

abbrev pub invariant-loop-e : goal.invariant-loop-e
invariant-loop-e l = spec.least_unfit l.signals l.joined l.least (drop l.e-index l.edges) ≡ spec.least_unfit l.signals l.joined None l.edges
