use Rattle.std.proofs.Common.{◌≡◌, ◌-◌, ◌++◌}
use Rattle.b4_core.specs.Vectors.{digits}
use Rattle.b4_core.proofs.words.low_digits.Given as goal

-- what is written, and the digits of what is left
abbrev pub invariant-loop-i : goal.invariant-loop-i
invariant-loop-i l = l.bits.items ++ digits (l.width - l._i) l.rest ≡ digits l.width l.n
