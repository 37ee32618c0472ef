use Rattle.bit_needs.proofs.Ends.{AreReachedUpTo}
use Rattle.bit_needs.proofs.writers.ends_of.Given as goal

abbrev pub invariant-loop-w : goal.invariant-loop-w
invariant-loop-w l = AreReachedUpTo l.written l.w-index l.ends l.last
