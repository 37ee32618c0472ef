use Rattle.typing_stmt_parts.proofs.Lacking.{item-made}
use Rattle.typing_stmt_parts.proofs.items.item_by.Goals as goal

pub returns-clause-item : goal.returns-clause-item
returns-clause-item c = item-made c.args.is_default c.args.values c.args.body c.lacking-lacks.result c.unless.result c.lacking-lacks.ensures c.unless.ensures
