use Rattle.std.proofs.Common.{◌≡◌, ◌++◌, drop}
use Rattle.expr_copies.proofs.leaves.+copy.Given as goal

abbrev pub invariant-copy_values-loop-value : goal.invariant-copy_values-loop-value
invariant-copy_values-loop-value l = l.made ++ drop l.value-index l.values ≡ l.values
