use Rattle.peel.proofs.Ending.{Gathered}
use Rattle.peel.proofs.peeling.held_numbers.Given as goal

abbrev pub invariant-loop-p : goal.invariant-loop-p
invariant-loop-p l = Gathered l.marks l.left l.p
