use Rattle.std.proofs.Common.{take}
use Rattle.cycle_dst.specs.Grounds.{EdgesOf, edges_among}
use Rattle.cycle_dst.proofs.making.edges_of.Given as goal

abbrev pub invariant-loop-k : goal.invariant-loop-k
invariant-loop-k l = EdgesOf l.ground l.edges (edges_among l.ground (take l.k l.ground.procs.now))
