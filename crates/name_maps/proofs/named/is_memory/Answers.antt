use Rattle.name_maps.proofs.Maps.{one-signal-at, signal-absent}
use Rattle.name_maps.proofs.named.is_memory.Goals as goal

pub returns-in-Some : goal.returns-in-Some
returns-in-Some c = λ one. (one-signal-at c.args.names.now c.args.n c.in-Some.at c.index-names-at.result one c.in-Some.ensures.0 (c.in-Some.ensures.1 _)).1

pub returns-in-None : goal.returns-in-None
returns-in-None c = λ one. (signal-absent c.args.names.now c.args.n c.in-None.ensures).1
