use Rattle.peel.proofs.Laws as Laws
use Rattle.peel.proofs.peeled_is_an_order.Goals as goal

pub returns : goal.returns
returns c = Laws.peeled_is_an_order
