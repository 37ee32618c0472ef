use Rattle.typing_stmt_parts.proofs.Lacking.{end-made}
use Rattle.typing_stmt_parts.proofs.items.ended.Goals as goal

pub returns : goal.returns
returns c = end-made c.args.values c.lacking-lacks.result c.unless.result c.lacking-lacks.ensures c.unless.ensures
