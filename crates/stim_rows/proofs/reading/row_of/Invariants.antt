use Rattle.std.proofs.Common.{◌≡◌, drop, ◌++◌}
use Rattle.stim_rows.specs.Reading as spec
use Rattle.stim_rows.proofs.reading.row_of.Given as goal

abbrev pub invariant-loop-port : goal.invariant-loop-port
invariant-loop-port l = l.row ++ spec.row_in (drop l.port-index l.inputs) l.rest ≡ spec.row_in l.inputs l.line
