use Rattle.std.proofs.Common.{◌≡◌, ◌++◌}
use Rattle.std.specs.Prelude.{replicate}
use Rattle.literal_types.proofs.bits.push_filled.Given as goal

-- what is pushed, and what is left
abbrev pub invariant-loop-left : goal.invariant-loop-left
invariant-loop-left l = l.bits.items ++ replicate l.left l.b ≡ l.initial.bits.items ++ replicate l.count l.b

abbrev pub decreases-loop-left : goal.decreases-loop-left
decreases-loop-left l = l.left
