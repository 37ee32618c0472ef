use Rattle.std.proofs.Common.{◌<◌}
use Rattle.path_flatten.specs.Storing.{IsSteady}
use Rattle.path_reads.proofs.runs.run_start.Given as goal

abbrev pub invariant-loop-low : goal.invariant-loop-low
invariant-loop-low l = record { below : l.low < l.high; same : IsSteady l.bits l.low l.high }

abbrev pub decreases-loop-low : goal.decreases-loop-low
decreases-loop-low l = l.low
