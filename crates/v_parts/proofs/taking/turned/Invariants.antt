use Rattle.std.proofs.Common.{◌≡◌, ◌++◌, reverse, length}
use Rattle.v_parts.proofs.taking.turned.Given as goal

abbrev pub invariant-loop-part : goal.invariant-loop-part
invariant-loop-part l = l.turned ++ reverse l.parts ≡ reverse l.fn.parts

abbrev pub decreases-loop-part : goal.decreases-loop-part
decreases-loop-part l = length l.parts
