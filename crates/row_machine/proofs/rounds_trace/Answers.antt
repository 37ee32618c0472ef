use Rattle.row_machine.proofs.Laws as Laws
use Rattle.row_machine.proofs.rounds_trace.Goals as goal

pub returns : goal.returns
returns c = Laws.rounds_trace
