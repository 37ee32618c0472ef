use Rattle.std.proofs.Common.{◌≡◌, ◌++◌}
use Rattle.std.specs.Prelude.{replicate}
use Rattle.b4_core.specs.declared.bit.Bit4.TheVariants.{Zero}
use Rattle.stmt_forms.proofs.loops.zeros.Given as goal

-- what is pushed, and what is left
abbrev pub invariant-loop-left : goal.invariant-loop-left
invariant-loop-left l = l.bits.items ++ replicate l.left Zero ≡ replicate l.count Zero

abbrev pub decreases-loop-left : goal.decreases-loop-left
decreases-loop-left l = l.left
