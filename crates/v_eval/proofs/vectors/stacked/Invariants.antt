use Rattle.std.proofs.Common.{◌≡◌, ◌≤◌, drop, length}
use Rattle.v_eval.specs.Vectors.{stacked}
use Rattle.v_eval.proofs.vectors.stacked.Given as goal

abbrev pub invariant-loop-i : goal.invariant-loop-i
invariant-loop-i l = (l.i ≤ length l.pieces) × (l.bits.items ≡ stacked (drop l.i l.pieces))

abbrev pub decreases-loop-i : goal.decreases-loop-i
decreases-loop-i l = l.i
