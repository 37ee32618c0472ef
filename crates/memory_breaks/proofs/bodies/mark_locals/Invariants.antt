use Rattle.std.proofs.Common.{◌≡◌, map, drop}
use Rattle.memory_breaks.specs.Bodies.{one_by_one, initial_walk}
use Rattle.memory_breaks.proofs.bodies.mark_locals.Given as goal

abbrev pub invariant-loop-local : goal.invariant-loop-local
invariant-loop-local l = one_by_one (map initial_walk (drop l.local-index l.locals)) l.marks ≡ one_by_one (map initial_walk l.locals) l.fn.marks
