use Rattle.row_machine.proofs.Laws as Laws
use Rattle.row_machine.proofs.settling_ends.Goals as goal

pub returns : goal.returns
returns c = Laws.settling_ends
