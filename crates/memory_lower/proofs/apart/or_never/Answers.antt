use Rattle.memory_lower.proofs.Besides.{none-named}
use Rattle.memory_lower.proofs.apart.or_never.Goals as goal

pub returns-in-None : goal.returns-in-None
returns-in-None c = none-named c.args.named c.never.result c.in-None.is c.never.ensures
