use Rattle.reach_marks.specs.Reach.{work}
use Rattle.reach_marks.proofs.Going.{Going}
use Rattle.reach_marks.proofs.reached.Given as goal

abbrev pub invariant-steps : goal.invariant-steps
invariant-steps l = Going l.roots l.next l.state

abbrev pub decreases-steps : goal.decreases-steps
decreases-steps l = work l.next l.state
