use Rattle.flow_laws.proofs.Placing.{places}
use Rattle.flow_laws.proofs.expressions_are_places.Goals as goal

pub returns : goal.returns
returns c = places
