use Rattle.std.proofs.Common.{◌≡◌}
use Rattle.v_meaning.specs.Values.{often}
use Rattle.v_eval.proofs.vectors.repeated.Given as goal

abbrev pub invariant-loop-i : goal.invariant-loop-i
invariant-loop-i l = l.bits.items ≡ often l._i l.v
