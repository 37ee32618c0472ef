use Rattle.std.proofs.Common.{◌≡◌, ◌≤◌, length, drop, true, min}
use Rattle.b4_core.specs.Vectors.{known, num}
use Rattle.b4_core.proofs.words.capped_number.Given as goal

-- the bits from i on are read
abbrev pub invariant-loop-i : goal.invariant-loop-i
invariant-loop-i l = (l.i ≤ length l.v) × (known (drop l.i l.v) ≡ true) × (l.n ≡ min (num (drop l.i l.v)) l.limit)

abbrev pub decreases-loop-i : goal.decreases-loop-i
decreases-loop-i l = l.i
