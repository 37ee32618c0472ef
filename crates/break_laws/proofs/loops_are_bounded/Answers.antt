use Rattle.break_laws.proofs.Bounds.{are-bounded}
use Rattle.break_laws.proofs.loops_are_bounded.Goals as goal

pub returns : goal.returns
returns c = are-bounded
