use Rattle.std.proofs.Common.{◌≡◌, take}
use Rattle.round_runner.specs.Stores.{widths}
use Rattle.cycle_dst.proofs.written.row_in.Given as goal

abbrev pub invariant-loop-vector : goal.invariant-loop-vector
invariant-loop-vector l = l.all ≡ widths (take l.vector-index l.store)
