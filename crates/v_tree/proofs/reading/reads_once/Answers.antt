use Rattle.v_tree.proofs.OneReading.{one_design}
use Rattle.v_tree.proofs.reading.reads_once.Goals as goal

pub returns : goal.returns
returns c = one_design
