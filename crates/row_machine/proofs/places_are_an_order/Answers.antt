use Rattle.row_machine.proofs.Laws as Laws
use Rattle.row_machine.proofs.places_are_an_order.Goals as goal

pub returns : goal.returns
returns c = Laws.places_are_an_order
