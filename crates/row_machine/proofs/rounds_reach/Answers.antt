use Rattle.row_machine.proofs.Laws as Laws
use Rattle.row_machine.proofs.rounds_reach.Goals as goal

pub returns : goal.returns
returns c = Laws.rounds_reach
