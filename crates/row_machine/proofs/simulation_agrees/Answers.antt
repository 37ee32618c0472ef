use Rattle.row_machine.proofs.Laws as Laws
use Rattle.row_machine.proofs.simulation_agrees.Goals as goal

pub returns : goal.returns
returns c = Laws.simulation_agrees
