use Rattle.row_machine.proofs.Laws as Laws
use Rattle.row_machine.proofs.runs_trace.Goals as goal

pub returns : goal.returns
returns c = Laws.runs_trace
