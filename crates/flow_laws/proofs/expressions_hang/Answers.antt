use Rattle.flow_laws.proofs.Hanging.{hangs}
use Rattle.flow_laws.proofs.expressions_hang.Goals as goal

pub returns : goal.returns
returns c = hangs
