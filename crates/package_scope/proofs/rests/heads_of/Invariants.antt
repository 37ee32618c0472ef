use Rattle.std.proofs.Common.{◌≡◌, ℕ, ◌≤◌, drop, length}
use Rattle.package_scope.specs.Rests.{end_of}
use Rattle.package_scope.specs.Rules.{head_of}
use Rattle.package_scope.proofs.rests.heads_of.Given as goal

abbrev pub invariant-loop-at : goal.invariant-loop-at
invariant-loop-at l = record {
  ends : (s : ℕ) → end_of l.heads s ≡ head_of s (drop l.at l.list);
  within : l.at ≤ length l.list;
}

abbrev pub decreases-loop-at : goal.decreases-loop-at
decreases-loop-at l = l.at
