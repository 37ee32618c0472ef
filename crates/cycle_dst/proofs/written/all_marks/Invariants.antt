use Rattle.cycle_dst.proofs.Covering.{MarkedTo}
use Rattle.cycle_dst.proofs.written.all_marks.Given as goal

abbrev pub invariant-loop-n : goal.invariant-loop-n
invariant-loop-n l = MarkedTo l.row.widths l.set l.n l.all
