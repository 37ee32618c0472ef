use Rattle.std.proofs.Common.{◌≡◌, ◌++◌, length}
use Rattle.typing_scopes.proofs.rows.listed.Given as goal

abbrev pub invariant-loop-item : goal.invariant-loop-item
invariant-loop-item g l = l.list ++ l.from ≡ l.initial.from

abbrev pub decreases-loop-item : goal.decreases-loop-item
decreases-loop-item g l = length l.from
