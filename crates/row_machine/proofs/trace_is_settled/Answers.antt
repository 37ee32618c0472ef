use Rattle.row_machine.proofs.Laws as Laws
use Rattle.row_machine.proofs.trace_is_settled.Goals as goal

pub returns : goal.returns
returns c = Laws.trace_is_settled
