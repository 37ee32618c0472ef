use Rattle.bit_needs.proofs.Laws as Laws
use Rattle.bit_needs.proofs.needs_are_followed.Goals as goal

pub returns : goal.returns
returns c = Laws.needs_are_followed
