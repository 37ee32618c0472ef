use Rattle.std.proofs.Common.{◌≡◌, ◌≤◌, ◌++◌, length, take}
use Rattle.v_meaning.specs.Modules.{numbers}
use Rattle.v_instances.proofs.slots.joined.Given as goal

abbrev pub invariant-loop-left : goal.invariant-loop-left
invariant-loop-left l = (l.bits.items ++ numbers (take l.left l.pieces) ≡ numbers l.fn.pieces) × (l.left ≤ length l.pieces)

abbrev pub decreases-loop-left : goal.decreases-loop-left
decreases-loop-left l = l.left
