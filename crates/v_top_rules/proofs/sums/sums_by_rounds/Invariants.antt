use Rattle.std.proofs.Common.{◌≡◌}
use Rattle.v_top_rules.specs.Sums.{rounds}
use Rattle.v_top_rules.proofs.sums.sums_by_rounds.Given as goal

abbrev pub invariant-loop-round : goal.invariant-loop-round
invariant-loop-round l = l.sums ≡ rounds l._round l.fn.nodes
