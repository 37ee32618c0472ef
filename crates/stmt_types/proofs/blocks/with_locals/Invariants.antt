use Rattle.std.proofs.Common.{◌≡◌, ◌++◌, length, reverse}
use Rattle.stmt_types.proofs.blocks.with_locals.Given as goal

-- what is made, and what is left from the end on
abbrev pub invariant-loop-local : goal.invariant-loop-local
invariant-loop-local l = l.made.items ++ reverse l.rest ≡ l.fn.locals.items ++ reverse l.fn.before

abbrev pub decreases-loop-local : goal.decreases-loop-local
decreases-loop-local l = length l.rest
