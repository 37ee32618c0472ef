use Rattle.std.proofs.Common.{◌≡◌, None, replicate}
use Rattle.pattern_fit.proofs.fitting.nothing_taken.Given as goal

abbrev pub invariant-loop-i : goal.invariant-loop-i
invariant-loop-i l = l.taken.items ≡ replicate l._i None
