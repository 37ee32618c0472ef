use Rattle.order_laws.proofs.Laws.{keep-order}
use Rattle.order_laws.proofs.Together.{parts}
use Rattle.order_laws.proofs.trees_keep_order.Goals as goal

pub returns : goal.returns
returns c = keep-order parts
