use Rattle.row_machine.proofs.Laws as Laws
use Rattle.row_machine.proofs.reached_or_changing.Goals as goal

pub returns : goal.returns
returns c = Laws.reached_or_changing
