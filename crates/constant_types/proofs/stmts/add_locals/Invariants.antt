use Rattle.std.proofs.Common.{◌≡◌, map, drop}
use Rattle.expr_type.specs.Uses.{in_turn, initial_uses}
use Rattle.constant_types.proofs.stmts.add_locals.Given as goal

abbrev pub invariant-loop-local : goal.invariant-loop-local
invariant-loop-local l = in_turn (map initial_uses (drop l.local-index l.locals)) l.to ≡ in_turn (map initial_uses l.locals) l.fn.to
