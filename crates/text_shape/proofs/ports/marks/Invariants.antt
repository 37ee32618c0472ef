use Rattle.std.proofs.Common.{◌≡◌, replicate}
use Rattle.b4_core.specs.declared.bit.Bit4.TheVariants.{Zero}
use Rattle.text_shape.proofs.ports.marks.Given as goal

abbrev pub invariant-loop-bit : goal.invariant-loop-bit
invariant-loop-bit l = l.marks.items ≡ replicate l._bit Zero
