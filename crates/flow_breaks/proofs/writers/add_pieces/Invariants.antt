use Rattle.std.proofs.Common.{◌≡◌, ◌++◌, drop}
use Rattle.flow_breaks.specs.Pieces as spec
use Rattle.flow_breaks.proofs.writers.add_pieces.Given as goal

abbrev pub invariant-loop-w : goal.invariant-loop-w
invariant-loop-w l = l.to.items ++ spec.pieces l.by l.instance (drop l.w-index l.writes) ≡ l.fn.to.items ++ spec.pieces l.by l.instance l.writes
