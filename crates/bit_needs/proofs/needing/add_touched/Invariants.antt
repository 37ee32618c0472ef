use Rattle.bit_needs.proofs.Touching.{AddsBelow}
use Rattle.bit_needs.proofs.needing.add_touched.Given as goal

abbrev pub invariant-loop-k : goal.invariant-loop-k
invariant-loop-k l = AddsBelow l.written l.span l.k l.fn.to l.to
