use Rattle.std.proofs.Common.{Some, ap}
use Rattle.v_meaning.specs.Values.{meaning}
use Rattle.path_flatten.proofs.Placing.{guarded-index}
use Rattle.path_flatten.proofs.ranks.guarded_rank.Goals as goal

pub returns-clause-ranked : goal.returns-clause-ranked
returns-clause-ranked c =
    guarded-index (meaning c.args.index.now) c.args.width c.args.last (record { guard = Some c.in_ok-guard.guard; rank = c.in_ok-rank.rank }) (ap Some c.in_ok-guard.ensures) c.in_ok-rank.ensures
