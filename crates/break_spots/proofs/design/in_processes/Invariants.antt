use Rattle.std.proofs.Common.{◌≡◌, map, drop}
use Rattle.std.specs.Prelude.{option_copied}
use Rattle.break_spots.specs.Walk.{in_turn, process_here}
use Rattle.break_spots.proofs.design.in_processes.Given as goal

abbrev pub invariant-loop-process : goal.invariant-loop-process
invariant-loop-process l = in_turn (map (process_here l.at l.instance) (drop l.process-index l.processes)) (option_copied l.first) ≡ in_turn (map (process_here l.at l.instance) l.processes) (option_copied l.found)
