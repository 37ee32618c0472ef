use Rattle.row_machine.proofs.Laws as Laws
use Rattle.row_machine.proofs.round_trace_is_trace.Goals as goal

pub returns : goal.returns
returns c = Laws.round_trace_is_trace
