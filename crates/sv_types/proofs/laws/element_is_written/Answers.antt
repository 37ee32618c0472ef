use Rattle.sv_types.proofs.WriteLaws as Laws
use Rattle.sv_types.proofs.laws.element_is_written.Goals as goal

pub returns : goal.returns
returns c = Laws.element_is_written
