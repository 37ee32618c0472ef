use Rattle.peel.proofs.Laws as Laws
use Rattle.peel.proofs.rest_is_stuck.Goals as goal

pub returns : goal.returns
returns c = Laws.rest_is_stuck
