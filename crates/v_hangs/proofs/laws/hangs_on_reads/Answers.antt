use Rattle.v_hangs.proofs.Processes.{hangs_on_reads}
use Rattle.v_hangs.proofs.laws.hangs_on_reads.Goals as goal

pub returns : goal.returns
returns c = hangs_on_reads
