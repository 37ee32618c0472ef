use Rattle.std.proofs.Common.{◌≡◌, ◌++◌, reverse, length}
use Rattle.sv_build.proofs.attributes.turned.Given as goal

abbrev pub invariant-loop-token : goal.invariant-loop-token
invariant-loop-token l = l.tokens ++ reverse l.turned.items ≡ l.fn.tokens

abbrev pub decreases-loop-token : goal.decreases-loop-token
decreases-loop-token l = length l.tokens
