use Rattle.std.proofs.Common.{◌≡◌, ◌≤◌, ◌<◌, ◌^◌, ◌-◌, length, drop}
use Rattle.b4_core.specs.Vectors.{num}
use Rattle.eval_parts.proofs.selects.magnitude.Given as goal

abbrev pub invariant-loop-i : goal.invariant-loop-i
invariant-loop-i l = record { within : l.i ≤ length l.v; value : l.n ≡ num (drop l.i l.v); small : l.n < 2 ^ (length l.v - l.i) }

abbrev pub decreases-loop-i : goal.decreases-loop-i
decreases-loop-i l = l.i
