use Rattle.target_walk.proofs.Ending.{whole-written}
use Rattle.target_walk.proofs.Limiting.{own-narrow}
use Rattle.target_walk.proofs.Owning.{plain-at}
use Rattle.target_walk.proofs.paths.whole_path.Goals as goal

pub width-requires : goal.width-requires
width-requires c = own-narrow c.args.e.now 4194304 c.requires.narrow

pub returns-clause-writes : goal.returns-clause-writes
returns-clause-writes c =
    whole-written c.args.image.now c.args.e.now c.args.indices.now c.in_ok-spot.spot c.width.result c.whole_writes.result c.in_ok-spot.ensures.stands c.width.ensures.bits c.whole_writes.ensures.writes c.whole_writes.ensures.names

pub returns-clause-own : goal.returns-clause-own
returns-clause-own c = c.whole_writes.ensures.own

pub returns-clause-plain : goal.returns-clause-plain
returns-clause-plain c = plain-at c.args.image.now c.args.indices.now c.in_ok-spot.spot c.whole_writes.result c.in_ok-spot.ensures.steady c.whole_writes.ensures.plain
