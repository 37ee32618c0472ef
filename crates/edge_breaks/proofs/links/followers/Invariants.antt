use Rattle.std.proofs.Common.{◌≡◌, [], replicate, drop}
use Rattle.edge_breaks.specs.Links as spec
use Rattle.edge_breaks.proofs.links.followers.Given as goal

abbrev pub invariant-loop-k : goal.invariant-loop-k
invariant-loop-k l = spec.all_links l.next.items (drop l.k l.processes) (drop l.k l.found) ≡ spec.all_links (replicate l.count []) l.processes l.found
