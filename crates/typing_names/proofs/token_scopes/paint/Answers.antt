use Rattle.std.proofs.Common.{arith}
use Rattle.typing_names.proofs.Painting.{paint-end}
use Rattle.typing_names.proofs.token_scopes.paint.Goals as goal

pub returns-clause-painted : goal.returns-clause-painted
returns-clause-painted c =
    paint-end c.args.scope.first c.args.scope.last c.loop-token.token c.min-end.result c.args.number c.args.scopes.now c.loop-token.scopes
    (omega arith) (omega arith) (omega arith) (omega arith) c.loop-token.invariant.painted
