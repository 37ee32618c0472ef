use Rattle.std.proofs.Common.{◌≡◌, Some, true, rules}
use Rattle.v_meaning.specs.Values as T
use Rattle.v_meaning.specs.Values.{meaning}
use Rattle.lowering_laws.specs.Terms as terms
use Rattle.path_flatten.specs.Guards.{guard_meaning}
use Rattle.path_flatten.proofs.Placing.{falling-index}
use Rattle.path_flatten.proofs.ranks.falling_rank.Goals as goal

pub returns-clause-ranked : goal.returns-clause-ranked
returns-clause-ranked c =
    let y = meaning c.args.index.now in
    let guard : guard_meaning (Some c.in_ok-guard.guard) ≡ Some (terms.between (T.signing true (meaning c.args.index.now)) c.args.width c.args.right c.args.left) = search rules in
    let rank : meaning c.in_ok-rank.rank ≡ terms.above (T.signing true (meaning c.args.index.now)) c.args.width c.args.right = search rules in
    falling-index (meaning c.args.index.now) c.args.width c.args.left c.args.right (record { guard = Some c.in_ok-guard.guard; rank = c.in_ok-rank.rank }) guard rank
