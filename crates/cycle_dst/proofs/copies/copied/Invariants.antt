use Rattle.std.proofs.Common.{◌≡◌, take}
use Rattle.cycle_dst.proofs.copies.copied.Given as goal

abbrev pub invariant-loop-vector : goal.invariant-loop-vector
invariant-loop-vector l = l.copy.items ≡ take l.vector-index l.store
