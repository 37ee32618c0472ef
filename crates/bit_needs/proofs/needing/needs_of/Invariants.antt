use Rattle.bit_needs.proofs.Touching.{AreTouchedEach}
use Rattle.bit_needs.proofs.needing.needs_of.Given as goal

abbrev pub invariant-loop-f : goal.invariant-loop-f
invariant-loop-f l = AreTouchedEach l.writers.written l.footprints l.f-index l.needs
