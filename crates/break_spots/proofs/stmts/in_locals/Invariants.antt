use Rattle.std.proofs.Common.{◌≡◌, map, drop}
use Rattle.std.specs.Prelude.{option_copied}
use Rattle.break_spots.specs.Walk.{in_turn, initial_walk}
use Rattle.break_spots.proofs.stmts.in_locals.Given as goal

abbrev pub invariant-loop-local : goal.invariant-loop-local
invariant-loop-local l = in_turn (map (initial_walk l.at) (drop l.local-index l.locals)) (option_copied l.first) ≡ in_turn (map (initial_walk l.at) l.locals) (option_copied l.found)
