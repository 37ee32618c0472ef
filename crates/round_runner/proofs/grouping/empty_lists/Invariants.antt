use Rattle.round_runner.specs.Plans.{AllEmpty}
use Rattle.round_runner.proofs.grouping.empty_lists.Given as goal

abbrev pub invariant-loop-k : goal.invariant-loop-k
invariant-loop-k l = AllEmpty l._k l.lists.items
