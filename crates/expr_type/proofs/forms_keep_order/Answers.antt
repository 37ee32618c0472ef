use Rattle.expr_type.proofs.KeepOrder.{keep-order}
use Rattle.expr_type.proofs.forms_keep_order.Goals as goal

pub returns : goal.returns
returns c = keep-order
