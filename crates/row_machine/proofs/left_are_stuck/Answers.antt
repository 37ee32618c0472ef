use Rattle.row_machine.proofs.Laws as Laws
use Rattle.row_machine.proofs.left_are_stuck.Goals as goal

pub returns : goal.returns
returns c = Laws.left_are_stuck
