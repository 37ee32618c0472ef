use Rattle.std.proofs.Common.{◌≡◌, ◌+◌, drop}
use Rattle.bit_sets.specs.Sets.{Ascending}
use Rattle.bit_sets.proofs.Counts.{total}
use Rattle.bit_sets.proofs.counting.count_of.Given as goal

abbrev pub invariant-loop-s : goal.invariant-loop-s
invariant-loop-s l = record {
  above : Ascending l.count (drop l.s-index l.set);
  value : l.count + total (drop l.s-index l.set) ≡ total l.set;
}
