use Rattle.expr_lower.proofs.Alternating.{IsListed}
use Rattle.expr_lower.proofs.insides.alternatives.Given as goal

abbrev pub invariant-loop-i : goal.invariant-loop-i
invariant-loop-i l = IsListed l.x l.choices l.i l.fn.parts l.rest l.initial.helpers l.helpers l.made

abbrev pub decreases-loop-i : goal.decreases-loop-i
decreases-loop-i l = l.i
