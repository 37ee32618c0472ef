use Rattle.row_machine.proofs.Laws as Laws
use Rattle.row_machine.proofs.one_run_settles.Goals as goal

pub returns : goal.returns
returns c = Laws.one_run_settles
