use Rattle.std.proofs.Common.{◌≡◌, false, replicate}
use Rattle.memory_breaks.proofs.marks.unmarked.Given as goal

abbrev pub invariant-loop-k : goal.invariant-loop-k
invariant-loop-k l = l.marks ≡ replicate l._k false
