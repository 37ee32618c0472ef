use Rattle.break_laws.proofs.Standing.{has-trace}
use Rattle.break_laws.proofs.designs_have_one_trace.Goals as goal

pub returns : goal.returns
returns c = has-trace
