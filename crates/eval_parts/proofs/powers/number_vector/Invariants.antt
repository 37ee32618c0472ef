use Rattle.std.proofs.Common.{◌≡◌, ◌-◌, ◌++◌}
use Rattle.b4_core.specs.Vectors.{digits}
use Rattle.eval_parts.proofs.powers.number_vector.Given as goal

abbrev pub invariant-loop-i : goal.invariant-loop-i
invariant-loop-i l = l.bits.items ++ digits (l.width - l._i) l.rest ≡ digits l.width l.n
