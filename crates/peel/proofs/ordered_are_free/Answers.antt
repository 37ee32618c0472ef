use Rattle.peel.proofs.Laws as Laws
use Rattle.peel.proofs.ordered_are_free.Goals as goal

pub returns : goal.returns
returns c = Laws.ordered_are_free
