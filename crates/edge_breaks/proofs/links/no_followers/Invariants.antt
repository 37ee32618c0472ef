use Rattle.std.proofs.Common.{◌≡◌, [], replicate}
use Rattle.edge_breaks.proofs.links.no_followers.Given as goal

abbrev pub invariant-loop-k : goal.invariant-loop-k
invariant-loop-k l = l.next.items ≡ replicate l._k []
