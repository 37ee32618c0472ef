use Rattle.flow_laws.proofs.Machines.{runs-within}
use Rattle.flow_laws.proofs.processes_run_within.Goals as goal

pub returns : goal.returns
returns c = runs-within
