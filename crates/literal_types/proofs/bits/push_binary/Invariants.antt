use Rattle.std.proofs.Common.{◌≡◌, ◌++◌}
use Rattle.b4_core.specs.Vectors.{digits}
use Rattle.literal_types.proofs.bits.push_binary.Given as goal

-- what is pushed, and the digits of what is left
abbrev pub invariant-loop-left : goal.invariant-loop-left
invariant-loop-left l = l.bits.items ++ digits l.left l.rest ≡ l.initial.bits.items ++ digits l.count l.n

abbrev pub decreases-loop-left : goal.decreases-loop-left
decreases-loop-left l = l.left
