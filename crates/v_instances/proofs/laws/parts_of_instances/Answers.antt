use Rattle.v_instances.proofs.Counting.{parts-are}
use Rattle.v_instances.proofs.laws.parts_of_instances.Goals as goal

pub returns : goal.returns
returns c = parts-are
