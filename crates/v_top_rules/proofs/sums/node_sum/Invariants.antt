use Rattle.std.proofs.Common.{◌≡◌, drop}
use Rattle.v_top_rules.specs.Sums.{sum_from, alone}
use Rattle.v_top_rules.proofs.sums.node_sum.Given as goal

abbrev pub invariant-loop-number : goal.invariant-loop-number
invariant-loop-number l = sum_from (drop l.number-index l.node.below) l.sums l.all ≡ sum_from l.fn.node.below l.fn.sums (alone l.fn.node)
