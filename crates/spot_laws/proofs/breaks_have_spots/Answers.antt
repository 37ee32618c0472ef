use Rattle.spot_laws.proofs.Breaks.{have-spots}
use Rattle.spot_laws.proofs.breaks_have_spots.Goals as goal

pub returns : goal.returns
returns c = have-spots
