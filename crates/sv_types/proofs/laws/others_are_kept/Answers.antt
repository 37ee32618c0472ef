use Rattle.sv_types.proofs.WriteLaws as Laws
use Rattle.sv_types.proofs.laws.others_are_kept.Goals as goal

pub returns : goal.returns
returns c = Laws.others_are_kept
