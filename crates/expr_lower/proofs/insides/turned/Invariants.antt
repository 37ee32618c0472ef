use Rattle.std.proofs.Common.{◌≡◌, ◌++◌, length, reverse}
use Rattle.expr_lower.proofs.insides.turned.Given as goal

abbrev pub invariant-loop-bit : goal.invariant-loop-bit
invariant-loop-bit l = l.made ++ reverse l.rest ≡ reverse l.fn.bits

abbrev pub decreases-loop-bit : goal.decreases-loop-bit
decreases-loop-bit l = length l.rest
