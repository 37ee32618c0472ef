use Rattle.std.proofs.Common.{◌≡◌, ◌++◌, length}
use Rattle.typing_declarations.proofs.head_names.listed.Given as goal

abbrev pub invariant-loop-value : goal.invariant-loop-value
invariant-loop-value l = l.list ++ l.from ≡ l.initial.from

abbrev pub decreases-loop-value : goal.decreases-loop-value
decreases-loop-value l = length l.from
