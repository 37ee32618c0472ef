use Rattle.std.proofs.Common.{arith}
use Rattle.v_meaning.specs.Values.{meaning}
use Rattle.target_walk.proofs.Mentions.{naming-none, naming-after}
use Rattle.target_walk.proofs.never.naming.Goals as goal

pub loop-given-init : goal.loop-given-init
loop-given-init c = naming-none (meaning c.in_ok-guard.guard) c.args.indices.now c.in_ok-guard.ensures

pub loop-given-preserved : goal.loop-given-preserved
loop-given-preserved c =
    naming-after (meaning c.loop-given.guard) (meaning c.in_ok-guard-2.guard) c.given-item.result c.loop-given.given-index c.args.indices.now (omega arith) c.given-item.is c.in_ok-guard-2.ensures c.loop-given.invariant
