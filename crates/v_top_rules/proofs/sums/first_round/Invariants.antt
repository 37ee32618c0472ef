use Rattle.std.proofs.Common.{◌≡◌, ◌++◌, drop, map}
use Rattle.v_top_rules.specs.Sums.{alone}
use Rattle.v_top_rules.proofs.sums.first_round.Given as goal

abbrev pub invariant-loop-node : goal.invariant-loop-node
invariant-loop-node l = l.sums ++ map alone (drop l.node-index l.nodes) ≡ map alone l.fn.nodes
