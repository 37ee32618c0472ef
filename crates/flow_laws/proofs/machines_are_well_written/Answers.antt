use Rattle.flow_laws.proofs.Machines.{well-written}
use Rattle.flow_laws.proofs.machines_are_well_written.Goals as goal

pub returns : goal.returns
returns c = well-written
