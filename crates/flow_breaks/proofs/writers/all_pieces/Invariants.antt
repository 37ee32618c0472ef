use Rattle.std.proofs.Common.{◌≡◌, ◌++◌, drop}
use Rattle.flow_breaks.specs.Pieces as spec
use Rattle.flow_breaks.proofs.writers.all_pieces.Given as goal

abbrev pub invariant-loop-k : goal.invariant-loop-k
invariant-loop-k l = l.all.items ++ spec.pieces_from l.k (drop l.k l.processes) (drop l.k l.found) ≡ spec.pieces_from 0 l.processes l.found
