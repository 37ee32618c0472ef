use Rattle.std.proofs.Common.{◌≡◌, ◌++◌, length}
use Rattle.typing_scopes.proofs.rows.put.Given as goal

abbrev pub invariant-loop-item : goal.invariant-loop-item
invariant-loop-item g l = l.list ++ l.to ≡ l.initial.list ++ l.initial.to

abbrev pub decreases-loop-item : goal.decreases-loop-item
decreases-loop-item g l = length l.list
