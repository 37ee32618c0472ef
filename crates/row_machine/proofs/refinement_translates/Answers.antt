use Rattle.row_machine.proofs.Laws as Laws
use Rattle.row_machine.proofs.refinement_translates.Goals as goal

pub returns : goal.returns
returns c = Laws.refinement_translates
