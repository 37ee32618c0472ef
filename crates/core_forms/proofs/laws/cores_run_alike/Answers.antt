use Rattle.core_forms.proofs.Machines.{cores_run_alike}
use Rattle.core_forms.proofs.laws.cores_run_alike.Goals as goal

pub returns : goal.returns
returns c = cores_run_alike
