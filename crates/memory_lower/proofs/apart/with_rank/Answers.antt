use Rattle.v_meaning.specs.Values.{meaning}
use Rattle.memory_lower.proofs.Besides.{rank-besides}
use Rattle.memory_lower.proofs.apart.with_rank.Goals as goal

pub returns : goal.returns
returns c = rank-besides (meaning c.args.e) (meaning c.in_ok-guarded.guarded) c.args.rank.now c.besides.result c.in_ok-guarded.ensures c.besides.ensures
