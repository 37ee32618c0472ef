use Rattle.flow_laws.proofs.Machines.{combs-honest, edges-within}
use Rattle.flow_laws.proofs.processes_are_honest.Goals as goal

pub returns : goal.returns
returns c = λ d finals kind s o. (combs-honest d finals kind s o, edges-within d finals kind s o)
