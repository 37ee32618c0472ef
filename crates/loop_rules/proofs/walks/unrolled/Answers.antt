use Rattle.loop_rules.proofs.Unrolling as K
use Rattle.loop_rules.proofs.walks.unrolled.Goals as goal

pub returns : goal.returns
returns c = K.top-unrolled c.unroll.result c.args.functions.now c.args.s.now c.unroll.ensures
