use Rattle.std.proofs.Common.{◌≡◌, ℕ, ◌≤◌, drop, length}
use Rattle.package_scope.specs.Finding.{found_in, found_at}
use Rattle.package_scope.proofs.found_uses.found_uses.Given as goal

abbrev pub invariant-loop-at : goal.invariant-loop-at
invariant-loop-at l = record {
  found : (q : ℕ) → found_in l.found q ≡ found_at l.tokens l.names (drop l.at l.uses) q;
  within : l.at ≤ length l.uses;
}

abbrev pub decreases-loop-at : goal.decreases-loop-at
decreases-loop-at l = l.at
