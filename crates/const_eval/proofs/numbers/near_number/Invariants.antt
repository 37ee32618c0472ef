use Rattle.std.proofs.Common.{◌≡◌, ◌≤◌, length, drop}
use Rattle.const_eval.specs.Numbers.{start, from_top}
use Rattle.const_eval.proofs.numbers.near_number.Given as goal

abbrev pub invariant-loop-i : goal.invariant-loop-i
invariant-loop-i l = record { within : l.i ≤ length l.v; value : l.n ≡ from_top (start l.signed l.v) (drop l.i l.v) }

abbrev pub decreases-loop-i : goal.decreases-loop-i
decreases-loop-i l = l.i
