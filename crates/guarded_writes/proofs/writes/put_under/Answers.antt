use Rattle.std.proofs.Common.{reverse}
use Rattle.v_meaning.specs.Values.{meaning}
use Rattle.guarded_writes.proofs.Under.{first-more, last-first}
use Rattle.guarded_writes.proofs.writes.put_under.Goals as goal

pub loop-write-preserved : goal.loop-write-preserved
loop-write-preserved c =
    first-more (meaning c.args.condition.now) (reverse c.loop-write.rest) (reverse c.pop.new.self) c.args.writes c.args.all.now c.loop-write.all c.push.new.self c.in-Some.write c.in_ok-made.made
    (last-first c.loop-write.rest c.pop.new.self c.in-Some.write c.in-Some.ensures) c.loop-write.invariant c.in_ok-push.ensures.ok c.in_ok-made.ensures
