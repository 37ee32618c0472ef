use Rattle.std.proofs.Common.{◌≡◌, ◌-◌, ◌++◌, length}
use Rattle.stim_rows.specs.Reading as spec
use Rattle.stim_rows.proofs.reading.rows_of.Given as goal

abbrev pub invariant-loop-rest : goal.invariant-loop-rest
invariant-loop-rest l = l.rows ++ spec.rows_in (l.count - length l.rows) l.inputs l.size l.rest ≡ spec.rows_in l.count l.inputs l.size l.bytes

abbrev pub decreases-loop-rest : goal.decreases-loop-rest
decreases-loop-rest l = l.count - length l.rows
