use Rattle.v_hangs.proofs.Processes.{locals_dont_count}
use Rattle.v_hangs.proofs.laws.locals_dont_count.Goals as goal

pub returns : goal.returns
returns c = locals_dont_count
