use Rattle.std.proofs.Common.{refl}
use Rattle.typing_stmts.proofs.bodies.with_body.Goals as goal

pub returns-in-Ok-clause-value : goal.returns-in-Ok-clause-value
returns-in-Ok-clause-value g c = (refl, c.in-Ok.ensures.value)

pub returns-in-Err-clause-value : goal.returns-in-Err-clause-value
returns-in-Err-clause-value g c = c.in-Err.ensures.value
