use Rattle.sv_types.proofs.ReadLaws as Laws
use Rattle.sv_types.proofs.laws.outside_is_unknown.Goals as goal

pub returns : goal.returns
returns c = Laws.outside_is_unknown
