use Rattle.std.proofs.Common.{refl}
use Rattle.loop_rules.proofs.Counting as C
use Rattle.loop_rules.proofs.unbounded.least_unbounded.Goals as goal

pub returns : goal.returns
returns c = C.top-least c.least_of_stmt.result c.args.functions.now _ c.args.s.now refl c.least_of_stmt.ensures
