use Rattle.std.proofs.Common.{◌≡◌, drop}
use Rattle.v_functions.specs.Walks.{locals_skipped}
use Rattle.v_functions.proofs.walk.Walk.skip_locals.Given as goal

abbrev pub invariant-loop-local : goal.invariant-loop-local
invariant-loop-local l = locals_skipped (drop l.local-index l.locals) l.self ≡ locals_skipped l.fn.locals l.fn.self
