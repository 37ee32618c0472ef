use Rattle.std.proofs.Common.{◌≡◌, ◌++◌, reverse, length}
use Rattle.guarded_writes.proofs.writes.turned.Given as goal

abbrev pub invariant-loop-write : goal.invariant-loop-write
invariant-loop-write l = l.writes ++ reverse l.turned ≡ l.fn.writes

abbrev pub decreases-loop-write : goal.decreases-loop-write
decreases-loop-write l = length l.writes
