use Rattle.std.proofs.Common.{◌≡◌, ℕ, ◌≤◌, drop, length}
use Rattle.package_scope.specs.Index.{slots_in}
use Rattle.package_scope.specs.Packages.{start_from}
use Rattle.package_scope.proofs.packages.starts_of.Given as goal

abbrev pub invariant-loop-at : goal.invariant-loop-at
invariant-loop-at l = record {
  starts : (s p : ℕ) → slots_in l.starts (s, p) ≡ start_from l.table s p (drop l.at l.list);
  within : l.at ≤ length l.list;
}

abbrev pub decreases-loop-at : goal.decreases-loop-at
decreases-loop-at l = l.at
