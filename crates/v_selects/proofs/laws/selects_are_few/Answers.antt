use Rattle.v_selects.proofs.Derivations.{spelled-few}
use Rattle.v_selects.proofs.laws.selects_are_few.Goals as goal

pub returns : goal.returns
returns c = spelled-few
