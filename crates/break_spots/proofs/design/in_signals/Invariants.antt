use Rattle.std.proofs.Common.{◌≡◌, map, drop}
use Rattle.std.specs.Prelude.{option_copied}
use Rattle.break_spots.specs.Walk.{in_turn, signal_here}
use Rattle.break_spots.proofs.design.in_signals.Given as goal

abbrev pub invariant-loop-signal : goal.invariant-loop-signal
invariant-loop-signal l = in_turn (map (signal_here l.at l.instance) (drop l.signal-index l.signals)) (option_copied l.first) ≡ in_turn (map (signal_here l.at l.instance) l.signals) (option_copied l.found)
