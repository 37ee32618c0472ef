use Rattle.std.proofs.Common.{◌≡◌, ◌≤◌, length, drop}
use Rattle.v_eval.specs.Functions.{place_of}
use Rattle.v_modules.specs.Places.{places_in}
use Rattle.v_modules.proofs.places.functions_of.Given as goal

abbrev pub invariant-loop-at : goal.invariant-loop-at
invariant-loop-at l = (l.at ≤ length l.items) × (places_in l.places ≡ place_of l.at (drop l.at l.items))

abbrev pub decreases-loop-at : goal.decreases-loop-at
decreases-loop-at l = l.at
