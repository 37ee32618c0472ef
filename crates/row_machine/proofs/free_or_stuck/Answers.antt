use Rattle.row_machine.proofs.Laws as Laws
use Rattle.row_machine.proofs.free_or_stuck.Goals as goal

pub returns : goal.returns
returns c = Laws.free_or_stuck
