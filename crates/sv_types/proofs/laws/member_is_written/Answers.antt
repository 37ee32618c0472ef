use Rattle.sv_types.proofs.WriteLaws as Laws
use Rattle.sv_types.proofs.laws.member_is_written.Goals as goal

pub returns : goal.returns
returns c = Laws.member_is_written
