use Rattle.flow_laws.proofs.Machines.{has-one-trace}
use Rattle.flow_laws.proofs.designs_have_one_trace.Goals as goal

pub returns : goal.returns
returns c = has-one-trace
