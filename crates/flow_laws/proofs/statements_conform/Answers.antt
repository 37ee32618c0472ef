use Rattle.flow_laws.proofs.Conforming.{conforms}
use Rattle.flow_laws.proofs.statements_conform.Goals as goal

pub returns : goal.returns
returns c = conforms
