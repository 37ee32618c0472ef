use Rattle.row_machine.proofs.Laws as Laws
use Rattle.row_machine.proofs.alike_translates.Goals as goal

pub returns : goal.returns
returns c = Laws.alike_translates
