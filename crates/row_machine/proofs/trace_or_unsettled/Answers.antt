use Rattle.row_machine.proofs.Laws as Laws
use Rattle.row_machine.proofs.trace_or_unsettled.Goals as goal

pub returns : goal.returns
returns c = Laws.trace_or_unsettled
