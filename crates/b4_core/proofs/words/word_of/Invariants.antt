use Rattle.std.proofs.Common.{◌≡◌, ◌≤◌, length, drop, true}
use Rattle.b4_core.specs.Vectors.{known, num}
use Rattle.b4_core.proofs.words.word_of.Given as goal

-- the bits from i on are read, and the word has room for each of them
abbrev pub invariant-loop-i : goal.invariant-loop-i
invariant-loop-i l = (l.i ≤ length l.v) × (known (drop l.i l.v) ≡ true) × (l.n ≡ num (drop l.i l.v))

abbrev pub decreases-loop-i : goal.decreases-loop-i
decreases-loop-i l = l.i
