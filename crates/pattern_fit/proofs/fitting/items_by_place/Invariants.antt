use Rattle.std.proofs.Common.{◌≡◌, ◌≤◌, true, drop, length}
use Rattle.sv_types.specs.Windows.{tabulated}
use Rattle.pattern_fit.specs.Fits.{item_at, is_once}
use Rattle.pattern_fit.proofs.fitting.items_by_place.Given as goal

abbrev pub invariant-loop-i : goal.invariant-loop-i
invariant-loop-i l = record {
  within : l.i ≤ length l.numbers;
  taken : l.taken.items ≡ tabulated l.count (item_at l.i (drop l.i l.numbers));
  once : is_once (drop l.i l.numbers) ≡ true;
}

abbrev pub decreases-loop-i : goal.decreases-loop-i
decreases-loop-i l = l.i
