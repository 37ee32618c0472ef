use Rattle.std.proofs.Common.{◌≡◌, ℕ, ◌≤◌, drop, length}
use Rattle.frame_things.specs.Places.{place_from, places_in}
use Rattle.typing_names.specs.Scopes.{declaration_number}
use Rattle.typing_names.proofs.source_names.declarations_of.Given as goal

abbrev pub invariant-loop-at : goal.invariant-loop-at
invariant-loop-at l = record {
  places : (q : ℕ) → places_in l.places q ≡ place_from declaration_number l.at q (drop l.at l.list);
  within : l.at ≤ length l.list;
}

abbrev pub decreases-loop-at : goal.decreases-loop-at
decreases-loop-at l = l.at
