use Rattle.v_meaning.specs.Values.{meaning}
use Rattle.memory_lower.proofs.Besides.{guard-besides}
use Rattle.memory_lower.proofs.apart.with_guard.Goals as goal

pub returns-in-Some : goal.returns-in-Some
returns-in-Some c = guard-besides (meaning c.args.e) c.args.guard.now _ c.besides.result c.in-Some.is c.besides.ensures
