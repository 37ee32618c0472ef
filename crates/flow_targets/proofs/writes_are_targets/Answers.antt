use Rattle.flow_targets.proofs.Sparing.{spares}
use Rattle.flow_targets.proofs.writes_are_targets.Goals as goal

pub returns : goal.returns
returns c = λ s k q signal free. spares q signal s k free
