use Rattle.std.proofs.Common.{◌≡◌, ◌++◌, drop}
use Rattle.bit_needs.specs.Writers.{pieces_from}
use Rattle.bit_needs.proofs.writers.pieces.Given as goal

abbrev pub invariant-loop-k : goal.invariant-loop-k
invariant-loop-k l = l.all.items ++ pieces_from l.k (drop l.k l.footprints) ≡ pieces_from 0 l.footprints
