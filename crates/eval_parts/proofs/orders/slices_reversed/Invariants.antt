use Rattle.std.proofs.Common.{◌≡◌, ◌*◌, ◌≤◌, true, length, drop}
use Rattle.sv_types.specs.Operators.{streamed}
use Rattle.eval_parts.proofs.orders.slices_reversed.Given as goal

abbrev pub invariant-loop-count : goal.invariant-loop-count
invariant-loop-count l = record {
  at : l.from ≡ l.count * l.slice;
  within : l.from ≤ length l.bits;
  made : l.reversed.items ≡ streamed true l.slice (drop l.from l.bits);
}

abbrev pub decreases-loop-count : goal.decreases-loop-count
decreases-loop-count l = l.count
