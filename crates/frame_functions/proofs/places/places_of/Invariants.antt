use Rattle.std.proofs.Common.{◌≡◌, take}
use Rattle.function_places.specs.Places.{Declared, first_place, places_in}
use Rattle.frame_functions.proofs.places.places_of.Given as goal

abbrev pub invariant-loop-place : goal.invariant-loop-place
invariant-loop-place l = (d : Declared) → places_in l.places d ≡ first_place d (take l.place l.functions)
