use Rattle.std.proofs.Common.{◌≡◌, map, drop}
use Rattle.body_mentions.specs.Walk.{one_by_one, initial_walk}
use Rattle.body_mentions.proofs.stmts.add_locals.Given as goal

abbrev pub invariant-loop-local : goal.invariant-loop-local
invariant-loop-local l = one_by_one (map initial_walk (drop l.local-index l.locals)) l.to ≡ one_by_one (map initial_walk l.locals) l.fn.to
