use Rattle.row_machine.proofs.Laws as Laws
use Rattle.row_machine.proofs.one_settled.Goals as goal

pub returns : goal.returns
returns c = Laws.one_settled
