use Rattle.row_machine.proofs.Laws as Laws
use Rattle.row_machine.proofs.order_frees.Goals as goal

pub returns : goal.returns
returns c = Laws.order_frees
