use Rattle.std.proofs.Common.{reverse, length}
use Rattle.v_meaning.specs.Values.{meaning}
use Rattle.guarded_writes.proofs.Under.{PutsFirst}
use Rattle.guarded_writes.proofs.writes.put_under.Given as goal

abbrev pub invariant-loop-write : goal.invariant-loop-write
invariant-loop-write l = PutsFirst (meaning l.condition) (reverse l.rest) l.fn.writes l.fn.all l.all

abbrev pub decreases-loop-write : goal.decreases-loop-write
decreases-loop-write l = length l.rest
