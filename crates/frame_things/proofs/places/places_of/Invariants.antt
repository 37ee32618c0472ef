use Rattle.std.proofs.Common.{◌≡◌, ℕ, ◌≤◌, drop, length}
use Rattle.frame_things.specs.Places.{place_from, places_in}
use Rattle.frame_things.proofs.places.places_of.Given as goal

abbrev pub invariant-loop-at : goal.invariant-loop-at
invariant-loop-at g l = record {
  places : (n : ℕ) → places_in l.places n ≡ place_from g.T.Numbered.number l.at n (drop l.at l.list);
  within : l.at ≤ length l.list;
}

abbrev pub decreases-loop-at : goal.decreases-loop-at
decreases-loop-at g l = l.at
