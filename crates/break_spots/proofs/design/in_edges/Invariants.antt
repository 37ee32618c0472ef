use Rattle.std.proofs.Common.{◌≡◌, drop}
use Rattle.std.specs.Prelude.{option_copied}
use Rattle.break_spots.specs.Walk.{edges_walk}
use Rattle.break_spots.proofs.design.in_edges.Given as goal

abbrev pub invariant-loop-edge : goal.invariant-loop-edge
invariant-loop-edge l = edges_walk l.at (drop l.edge-index l.edges) (option_copied l.first) ≡ edges_walk l.at l.edges (option_copied l.found)
