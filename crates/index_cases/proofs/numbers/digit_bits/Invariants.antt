use Rattle.std.proofs.Common.{◌≡◌, ◌-◌, ◌++◌}
use Rattle.b4_core.specs.Vectors.{digits}
use Rattle.index_cases.proofs.numbers.digit_bits.Given as goal

abbrev pub invariant-loop-i : goal.invariant-loop-i
invariant-loop-i l = l.bits.items ++ digits (l.width - l._i) l.rest ≡ digits l.width l.n
