use Rattle.v_zero.proofs.Giving.{given-held}
use Rattle.v_zero.proofs.laws.given_held.Goals as goal

pub returns : goal.returns
returns c = given-held
