use Rattle.std.proofs.Common.{◌<◌, length}
use Rattle.round_runner.proofs.grouping.root.Given as goal

abbrev pub invariant-up : goal.invariant-up
invariant-up l = l.at < length l.parents

abbrev pub decreases-up : goal.decreases-up
decreases-up l = l.at
