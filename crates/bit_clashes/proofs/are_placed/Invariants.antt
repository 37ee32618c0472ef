use Rattle.bit_clashes.proofs.Placed.{PlacedUpTo}
use Rattle.bit_clashes.proofs.are_placed.Given as goal

abbrev pub invariant-loop-p : goal.invariant-loop-p
invariant-loop-p l = PlacedUpTo l.pieces l.p-index
