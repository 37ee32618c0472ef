use Rattle.std.proofs.Common.{◌≡◌, ℕ, ◌≤◌, List, drop, length}
use Rattle.package_scope.specs.Earliest.{of_declaration, kept_under, earliest_from}
use Rattle.package_scope.proofs.clashes.declared_of.Given as goal

abbrev pub invariant-loop-at : goal.invariant-loop-at
invariant-loop-at l = record {
  numbers : (s : ℕ) (q : List ℕ) → kept_under l.names l.clashes s q ≡ earliest_from of_declaration s q (drop l.at l.list);
  within : l.at ≤ length l.list;
}

abbrev pub decreases-loop-at : goal.decreases-loop-at
decreases-loop-at l = l.at
