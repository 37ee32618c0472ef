use Rattle.std.proofs.Common.{◌≡◌, ◌++◌, drop}
use Rattle.reach_marks.proofs.add_all.Given as goal

abbrev pub invariant-loop-n : goal.invariant-loop-n
invariant-loop-n l = l.to ++ drop l.n-index l.numbers ≡ l.fn.to ++ l.numbers
