use Rattle.break_laws.proofs.Standing.{are-free}
use Rattle.break_laws.proofs.processes_are_free.Goals as goal

pub returns : goal.returns
returns c = are-free
