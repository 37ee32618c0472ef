use Rattle.std.proofs.Common.{◌≡◌, ◌+◌, ◌*◌, drop}
use Rattle.type_widths.specs.Limbs.{number, onto}
use Rattle.type_widths.proofs.limbs.add_times.Given as goal

abbrev pub invariant-loop-i : goal.invariant-loop-i
invariant-loop-i l = onto l.made (l.carry + number (drop l.i l.a) + l.n * number (drop l.i l.x)) ≡ number l.a + l.n * number l.x
