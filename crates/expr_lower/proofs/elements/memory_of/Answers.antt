use Rattle.expr_lower.proofs.AskedLeaves.{path-Signal}
use Rattle.expr_lower.proofs.Words.{stands-plain}
use Rattle.expr_lower.proofs.elements.memory_of.Goals as goal

pub returns-in-None : goal.returns-in-None
returns-in-None c = stands-plain c.args.names.now c.args.e.now (λ n is. path-Signal c.args.e.now n is c.in-None.ensures.plain)
