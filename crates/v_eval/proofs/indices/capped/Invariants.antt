use Rattle.std.proofs.Common.{◌≡◌, ◌≤◌, length, drop, map, min}
use Rattle.b4_core.specs.Vectors.{num}
use Rattle.v_eval.specs.Indices.{most, flipped}
use Rattle.v_eval.proofs.indices.capped.Given as goal

-- the bits from i on are read
abbrev pub invariant-loop-i : goal.invariant-loop-i
invariant-loop-i l = (l.i ≤ length l.v) × (l.n ≡ min (num (map (flipped l.negated) (drop l.i l.v))) most)

abbrev pub decreases-loop-i : goal.decreases-loop-i
decreases-loop-i l = l.i
