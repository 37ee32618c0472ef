use Rattle.bit_needs.proofs.Touching.{AreTouchedUpTo}
use Rattle.bit_needs.proofs.needing.touched.Given as goal

abbrev pub invariant-loop-span : goal.invariant-loop-span
invariant-loop-span l = AreTouchedUpTo l.writers.written l.reads l.span-index l.list
