use Rattle.target_walk.proofs.Changing.{changes-all}
use Rattle.target_walk.proofs.Mentions.{flattened-all, all-flattened-in}
use Rattle.target_walk.proofs.Owning.{own-of, bare-of}
use Rattle.target_walk.proofs.paths.flatten_target.Goals as goal

pub returns-clause-writes : goal.returns-clause-writes
returns-clause-writes c = flattened-all c.args.image.now c.args.e.now c.args.indices.now c.path_writes.result c.with_names.result c.path_writes.ensures.writes c.path_writes.ensures.own c.with_names.ensures.names

pub returns-clause-inside : goal.returns-clause-inside
returns-clause-inside c = all-flattened-in c.args.image.now c.args.e.now c.args.indices.now c.path_writes.result c.with_names.result c.path_writes.ensures.writes c.with_names.ensures.names

pub returns-clause-changes : goal.returns-clause-changes
returns-clause-changes c =
    changes-all c.args.image.now c.args.e.now c.args.indices.now c.with_names.result
    (flattened-all c.args.image.now c.args.e.now c.args.indices.now c.path_writes.result c.with_names.result c.path_writes.ensures.writes c.path_writes.ensures.own c.with_names.ensures.names)

pub returns-clause-own : goal.returns-clause-own
returns-clause-own c = own-of c.args.image.now c.args.indices.now c.path_writes.result c.with_names.result c.path_writes.ensures.own c.with_names.ensures.names

pub returns-clause-plain : goal.returns-clause-plain
returns-clause-plain c =
    bare-of c.args.image.now c.args.indices.now c.path_writes.result c.with_names.result c.path_writes.ensures.plain c.with_names.ensures.names c.with_names.ensures.bare
