use Rattle.std.proofs.Common.{◌≡◌, map, drop}
use Rattle.action_breaks.specs.Bases.{in_turn, stands}
use Rattle.action_breaks.proofs.bases.+bases.Given as goal

abbrev pub invariant-add_parts-loop-e : goal.invariant-add_parts-loop-e
invariant-add_parts-loop-e l = in_turn (map stands (drop l.e-index l.es)) l.bases ≡ in_turn (map stands l.fn.es) l.fn.so_far
