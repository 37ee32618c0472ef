use Rattle.std.proofs.Common.{◌≡◌}
use Rattle.sv_types.specs.Layouts.{repeated}
use Rattle.eval_parts.proofs.vectors.repeat.Given as goal

abbrev pub invariant-loop-i : goal.invariant-loop-i
invariant-loop-i l = l.bits.items ≡ repeated l._i l.part
