use Rattle.row_machine.proofs.Laws as Laws
use Rattle.row_machine.proofs.target_is_free.Goals as goal

pub returns : goal.returns
returns c = Laws.target_is_free
