use Rattle.std.proofs.Common.{◌≡◌, drop}
use Rattle.memory_breaks.specs.Marks as spec
use Rattle.memory_breaks.proofs.marks.mark_writes.Given as goal

abbrev pub invariant-loop-w : goal.invariant-loop-w
invariant-loop-w l = spec.writes_marked (drop l.w-index l.writes) l.marks ≡ spec.writes_marked l.writes l.fn.marks
