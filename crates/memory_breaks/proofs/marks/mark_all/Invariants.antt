use Rattle.std.proofs.Common.{◌≡◌, drop}
use Rattle.memory_breaks.specs.Marks as spec
use Rattle.memory_breaks.proofs.marks.mark_all.Given as goal

abbrev pub invariant-loop-n : goal.invariant-loop-n
invariant-loop-n l = spec.all_marked (drop l.n-index l.numbers) l.marks ≡ spec.all_marked l.numbers l.fn.marks
