use Rattle.v_zero.proofs.Ruled.{initial-held}
use Rattle.v_zero.proofs.laws.initial_held.Goals as goal

pub returns : goal.returns
returns c = initial-held
