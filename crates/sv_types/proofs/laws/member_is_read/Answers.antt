use Rattle.sv_types.proofs.ReadLaws as Laws
use Rattle.sv_types.proofs.laws.member_is_read.Goals as goal

pub returns : goal.returns
returns c = Laws.member_is_read
