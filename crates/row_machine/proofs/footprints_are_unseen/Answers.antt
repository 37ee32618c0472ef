use Rattle.row_machine.proofs.Laws as Laws
use Rattle.row_machine.proofs.footprints_are_unseen.Goals as goal

pub returns : goal.returns
returns c = Laws.footprints_are_unseen
