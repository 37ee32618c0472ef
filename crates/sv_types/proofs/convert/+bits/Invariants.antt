use Rattle.std.proofs.Common.{◌≡◌, ◌≤◌, ◌++◌, length, map, drop}
use Rattle.sv_types.specs.Layouts.{stacked}
use Rattle.sv_types.specs.Values.{bits}
use Rattle.sv_types.proofs.convert.+bits.Given as goal

abbrev pub invariant-push_items-loop-i : goal.invariant-push_items-loop-i
invariant-push_items-loop-i l = (l.i ≤ length l.items) × (l.to.items ≡ l.initial.to.items ++ stacked (map bits (drop l.i l.items)))

abbrev pub decreases-push_items-loop-i : goal.decreases-push_items-loop-i
decreases-push_items-loop-i l = l.i
