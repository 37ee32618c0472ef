use Rattle.expr_type.proofs.Orders.{first-least}
use Rattle.expr_type.proofs.firsts_are_least.Goals as goal

pub returns : goal.returns
returns c = first-least
