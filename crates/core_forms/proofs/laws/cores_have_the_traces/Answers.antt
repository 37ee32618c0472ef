use Rattle.core_forms.proofs.Machines.{cores_have_the_traces}
use Rattle.core_forms.proofs.laws.cores_have_the_traces.Goals as goal

pub returns : goal.returns
returns c = cores_have_the_traces
