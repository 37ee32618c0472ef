use Rattle.v_zero.proofs.Starting.{start-held}
use Rattle.v_zero.proofs.laws.start_held.Goals as goal

pub returns : goal.returns
returns c = start-held
