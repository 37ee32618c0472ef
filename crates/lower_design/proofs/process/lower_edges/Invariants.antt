use Rattle.std.proofs.Common.{◌≡◌, ◌++◌, map, drop}
use Rattle.lower_design.specs.Lowered.{lowered_edge}
use Rattle.lower_design.proofs.process.lower_edges.Given as goal

abbrev pub invariant-loop-edge : goal.invariant-loop-edge
invariant-loop-edge l = l.lowered ++ map (lowered_edge l.signals) (drop l.edge-index l.edges) ≡ map (lowered_edge l.signals) l.edges
