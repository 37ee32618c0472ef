use Rattle.std.proofs.Common.{None, refl}
use Rattle.v_meaning.specs.Values.{meaning}
use Rattle.path_flatten.proofs.Placing.{free-index}
use Rattle.path_flatten.proofs.ranks.free_rank.Goals as goal

pub returns-clause-ranked : goal.returns-clause-ranked
returns-clause-ranked c = free-index (meaning c.args.index.now) (record { guard = None; rank = c.in_ok-rank.rank }) refl c.in_ok-rank.ensures
