use Rattle.std.proofs.Common.{◌≡◌, drop}
use Rattle.std.specs.Prelude.{option_copied}
use Rattle.break_spots.specs.Walk.{spots_walk}
use Rattle.break_spots.proofs.design.in_spots.Given as goal

abbrev pub invariant-loop-spot : goal.invariant-loop-spot
invariant-loop-spot l = spots_walk l.at (drop l.spot-index l.spots) (option_copied l.first) ≡ spots_walk l.at l.spots (option_copied l.found)
