use Rattle.row_machine.proofs.Laws as Laws
use Rattle.row_machine.proofs.independent_are_free.Goals as goal

pub returns : goal.returns
returns c = Laws.independent_are_free
