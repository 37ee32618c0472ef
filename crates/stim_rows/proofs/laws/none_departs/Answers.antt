use Rattle.stim_rows.proofs.Unique.{none_departs_there}
use Rattle.stim_rows.proofs.laws.none_departs.Goals as goal

pub returns : goal.returns
returns c = none_departs_there
