use Rattle.std.proofs.Common.{arith}
use Rattle.memory_targets.proofs.Naming.{in-after, in-all}
use Rattle.memory_targets.proofs.targets.each_in_word.Goals as goal

pub loop-write-preserved : goal.loop-write-preserved
loop-write-preserved c =
    in-after c.args.word.now c.args.writes.now c.loop-write.made c.push.new.self c.loop-write.write-index c.write-item.result c.in_ok-write_in.field-0 (omega arith) c.write-item.is c.in_ok-write_in.ensures c.in_ok-push.ensures.ok
    c.loop-write.invariant

pub returns : goal.returns
returns c = in-all c.args.word.now c.args.writes.now c.loop-write.made c.loop-write.write-index (omega arith) c.loop-write.invariant
