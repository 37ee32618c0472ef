use Rattle.std.proofs.Common.{◌≡◌, ◌≤◌, length, drop}
use Rattle.sv_types.specs.Layouts.{stacked}
use Rattle.eval_parts.proofs.vectors.stack.Given as goal

abbrev pub invariant-loop-i : goal.invariant-loop-i
invariant-loop-i l = (l.i ≤ length l.parts) × (l.bits.items ≡ stacked (drop l.i l.parts))

abbrev pub decreases-loop-i : goal.decreases-loop-i
decreases-loop-i l = l.i
