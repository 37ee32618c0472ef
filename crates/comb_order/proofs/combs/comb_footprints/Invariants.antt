use Rattle.comb_order.proofs.Collecting.{AreFoundUpTo}
use Rattle.comb_order.proofs.combs.comb_footprints.Given as goal

abbrev pub invariant-loop-n : goal.invariant-loop-n
invariant-loop-n l = AreFoundUpTo l.widths l.flows l.numbers l.n-index l.footprints
