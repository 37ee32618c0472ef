use Rattle.std.proofs.Common.{ℕ, ◌<◌, List, slice_index_or}
use Rattle.b4_core.specs.declared.bit.Bit4.{Bit4}
use Rattle.round_runner.specs.Rows.{FitsRow}
use Rattle.round_runner_tests.specs.Netlists.{shape_of}
use Rattle.round_runner_tests.proofs.netlist.Netlist.rows_fit.Given as goal

abbrev pub invariant-loop-row : goal.invariant-loop-row
invariant-loop-row l = (k : ℕ) (d : List (List Bit4)) → k < l.row-index → FitsRow (shape_of l.self.initial) l.self.inputs (slice_index_or l.row-items k d)
