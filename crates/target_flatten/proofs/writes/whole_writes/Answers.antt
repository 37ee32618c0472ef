use Rattle.std.proofs.Common.{arith}
use Rattle.target_flatten.proofs.Writing.{whole-inner}
use Rattle.target_flatten.proofs.writes.whole_writes.Goals as goal

pub returns-clause-writes : goal.returns-clause-writes
returns-clause-writes c =
    whole-inner c.args.image.now.bits c.args.spot c.args.n c.args.image.now.room c.entire.result c.in_ok-made.made c.entire.ensures.window (omega arith) c.in_ok-made.ensures.writes

pub returns-clause-names : goal.returns-clause-names
returns-clause-names c = c.in_ok-made.ensures.names

pub returns-clause-own : goal.returns-clause-own
returns-clause-own c = c.in_ok-made.ensures.own

pub returns-clause-plain : goal.returns-clause-plain
returns-clause-plain c = c.in_ok-made.ensures.plain
