use Rattle.std.proofs.Common.{◌≡◌, drop}
use Rattle.std.specs.Prelude.{nat_lt}
use Rattle.type_widths.specs.Limbs.{number}
use Rattle.type_widths.proofs.Ordering.{less_or}
use Rattle.type_widths.proofs.limbs.is_less.Given as goal

abbrev pub invariant-loop-i : goal.invariant-loop-i
invariant-loop-i l = less_or (number (drop l.i l.a)) (number (drop l.i l.b)) l.less ≡ nat_lt (number l.a) (number l.b)
