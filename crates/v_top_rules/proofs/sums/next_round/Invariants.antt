use Rattle.std.proofs.Common.{◌≡◌, ◌++◌, drop}
use Rattle.v_top_rules.specs.Sums.{round}
use Rattle.v_top_rules.proofs.sums.next_round.Given as goal

abbrev pub invariant-loop-node : goal.invariant-loop-node
invariant-loop-node l = l.next ++ round (drop l.node-index l.nodes) l.sums ≡ round l.fn.nodes l.fn.sums
