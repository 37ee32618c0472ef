use Rattle.std.proofs.Common.{◌≡◌, ℕ, ◌≤◌, List, drop, length}
use Rattle.package_scope.specs.Index.{under}
use Rattle.package_scope.specs.Rests.{link_from}
use Rattle.package_scope.proofs.rests.slots_of.Given as goal

abbrev pub invariant-loop-at : goal.invariant-loop-at
invariant-loop-at l = record {
  numbers : (n : ℕ) (q : List ℕ) → under l.names l.slots n q ≡ link_from l.at n q (drop l.at l.list);
  within : l.at ≤ length l.list;
}

abbrev pub decreases-loop-at : goal.decreases-loop-at
decreases-loop-at l = l.at
