use Rattle.std.proofs.Common.{◌≡◌, map, drop}
use Rattle.std.specs.Prelude.{option_copied}
use Rattle.break_spots.specs.Walk.{in_turn, function_here}
use Rattle.break_spots.proofs.design.in_functions.Given as goal

abbrev pub invariant-loop-function : goal.invariant-loop-function
invariant-loop-function l = in_turn (map (function_here l.at l.instance) (drop l.function-index l.functions)) (option_copied l.first) ≡ in_turn (map (function_here l.at l.instance) l.functions) (option_copied l.found)
