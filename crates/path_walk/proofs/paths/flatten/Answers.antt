use Rattle.std.proofs.Common.{option_copied}
use Rattle.v_meaning.specs.Values.{meaning}
use Rattle.path_walk.specs.Bases.{value_of}
use Rattle.path_walk.proofs.Typed.{own-narrow}
use Rattle.path_walk.proofs.Walking.{flattens-found, stands-found}
use Rattle.path_walk.proofs.paths.flatten.Goals as goal

pub read-requires-clause-narrow : goal.read-requires-clause-narrow
read-requires-clause-narrow c = own-narrow c.args.e.now c.requires.narrow

pub returns-clause-flattens : goal.returns-clause-flattens
returns-clause-flattens c =
    flattens-found c.args.names.now (value_of (option_copied c.args.base)) c.args.e.now c.args.indices.now c.follow.new.helpers c.read.new.helpers c.in_ok-reading.reading (meaning c.in_ok-made.made) c.requires.typed
    c.in_ok-made.ensures.grows c.in_ok-reading.ensures.finds c.in_ok-made.ensures.reads c.in_ok-made.ensures.names

pub returns-clause-stands : goal.returns-clause-stands
returns-clause-stands c =
    stands-found c.args.names.now (value_of (option_copied c.args.base)) c.args.e.now c.args.indices.now c.follow.new.helpers c.read.new.helpers c.in_ok-reading.reading (meaning c.in_ok-made.made) c.requires.typed
    c.in_ok-made.ensures.grows c.in_ok-reading.ensures.finds c.in_ok-made.ensures.reads c.in_ok-made.ensures.names
