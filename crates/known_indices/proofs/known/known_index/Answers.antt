use Rattle.known_indices.proofs.Numbers.{index-known}
use Rattle.known_indices.proofs.known.known_index.Goals as goal

pub returns-in-Ok-clause-known : goal.returns-in-Ok-clause-known
returns-in-Ok-clause-known c = index-known c.args.functions.now c.args.i.now c.in-Ok.known c.if-not-is_constant.ensures c.in-Ok.ensures.known
